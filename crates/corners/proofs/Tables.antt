-- What a table says of its speakers: coordinates in [-1, 1]. Assumes nothing.
use mathlib.Core.Path.{◌≡◌, refl, subst}
use mathlib.Core.Logic.{◌⊎◌, inl, inr}
use mathlib.Core.Bool.{Bool, true, false, not, ◌&&◌}
use mathlib.Core.List.{List, ◌∷◌}
use Prim.Native.Nat.{ℕ, ◌+◌, ◌≤◌}
use native.Mathlib.Omega.{arith}
use lib.Dec.{T, T_not, eqb, eqb_refl}
use lib.Ieee.{Float, nan, inf, fin, binary32, fits, le, lt, eq}
use lib.Ieee.Fits.{and_l, and_r}
use lib.Ieee.Scale.{finite}
use Rattle.ieee.specs.Units.{One, F32, Unitary, mag, P, N}
use Rattle.ieee.proofs.Compare.{le→}
use Rattle.ieee.proofs.Signed.{one_sided}
use Rattle.ieee.proofs.Constants.{one_f32, one_P}
use Rattle.vectors.specs.declared.Vec3.{Vec3}
use Rattle.corners.specs.Choice.{every_of, 1·0}
use Rattle.corners.specs.Table.{minus_one, between, placed_inside, distinct, alike}
use Rattle.corners.proofs.Lists.{In, Each, every→}

-- ---- what lies between two finite values is finite: from lo on, and up to hi or not from hi on
pub finite_between : (lo hi x : Float) → T (finite lo) → T (finite hi) → T (le lo x) → T (le x hi) ⊎ T (not (le hi x)) → T (finite x)
unfolding le lt eq
finite_between nan hi x f g h k = absurd f
finite_between (inf s) hi x f g h k = absurd f
finite_between (fin s m e) nan x f g h k = absurd g
finite_between (fin s m e) (inf t) x f g h k = absurd g
finite_between (fin s m e) (fin t n d) nan f g h k = absurd h
finite_between (fin s m e) (fin t n d) (inf true) f g h k = absurd h
finite_between (fin s m e) (fin t n d) (inf false) f g h (inl k) = absurd k
finite_between (fin s m e) (fin t n d) (inf false) f g h (inr k) = absurd k
finite_between (fin s m e) (fin t n d) (fin u o c) f g h k = tt

module _ (lo hi x : Float) (f : F32 lo) (g : F32 hi) where
  pub between→ : T (between lo hi x) → F32 x × (P lo + N x ≤ P x + N lo) × (P x + N hi ≤ P hi + N x)
  unfolding between
  between→ t =
      let o = and_r (fits binary32 x) (le lo x && le x hi) t in
      let h = and_l (le lo x) (le x hi) o in
      let k = and_r (le lo x) (le x hi) o in
      let e : F32 x = record { fine = finite_between lo hi x f.fine g.fine h (inl k); fit = and_l (fits binary32 x) (le lo x && le x hi) t } in
      (e, le→ lo x f e h, le→ x hi e g k)

minus_f32 : F32 minus_one
unfolding fits
minus_f32 = record { fine = tt; fit = tt }

minus_N : N minus_one ≡ One
unfolding mag One
minus_N = refl

tame : (x : Float) → T (between minus_one 1·0 x) → Unitary x
tame x t =
    let b = between→ minus_one 1·0 x minus_f32 one_f32 t in
    let p = one_P in
    let n = minus_N in
    elim (one_sided x) [
      | inl e ↦ record { f32 = b.0; high = omega (arith, e); deep = omega (arith, e, b.1, n) }
      | inr e ↦ record { f32 = b.0; high = omega (arith, e, b.2, p); deep = omega (arith, e) }
    ]

-- ---- the table
pub record Tame3 (v : Vec3) : Type 0 where
  pub x : Unitary v.x
  pub y : Unitary v.y
  pub z : Unitary v.z

pub all_tame : (sp : ℕ → Vec3) (l : List ℕ) → T (every_of (λ k. placed_inside (sp k)) l) → Each (λ k. Tame3 (sp k)) l
all_tame sp l t k m =
    let a = every→ (λ k. placed_inside (sp k)) l t k m in
    let v = sp k in
    let b = between minus_one 1·0 in
    let r = and_r (b v.x) (b v.y && b v.z) a in
    record {
      x = tame v.x (and_l (b v.x) (b v.y && b v.z) a);
      y = tame v.y (and_l (b v.y) (b v.z) r);
      z = tame v.z (and_r (b v.y) (b v.z) r);
    }

-- the channels after k are others
pub other : (sp : ℕ → Vec3) (k : ℕ) (l : List ℕ) → T (distinct sp (k ∷ l)) → {j : ℕ} → In j l → k ≡ j → ⊥
unfolding distinct
other sp k l d {j} m e =
    let far : ℕ → Bool = λ i. not (eqb k i) && not (alike (sp k) (sp i)) in
    let away : T (far j) = every→ far l (and_l (every_of far l) (distinct sp l) d) j m in
    T_not (eqb k j) (and_l (not (eqb k j)) (not (alike (sp k) (sp j))) away) (subst (λ (i : ℕ). T (eqb k i)) e (eqb_refl k))

pub others : (sp : ℕ → Vec3) (k : ℕ) (l : List ℕ) → T (distinct sp (k ∷ l)) → T (distinct sp l)
unfolding distinct
others sp k l d = and_r (every_of (λ i. not (eqb k i) && not (alike (sp k) (sp i))) l) (distinct sp l) d
