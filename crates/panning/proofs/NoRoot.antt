-- A root is 0 only of 0, so that whether a coefficient is 0 is seen without a root. Assumes nothing.
use mathlib.Core.Path.{◌≡◌, refl, sym, ap, ◌∙◌, subst}
use mathlib.Core.Bool.{Bool, true, false, not, cond}
use Prim.Native.Nat.{ℕ, zero, suc, ◌+◌, ◌*◌, ◌≤◌, ◌<◌}
use native.Mathlib.Nat.{zero-mul}
use native.Mathlib.Omega.{arith}
use lib.Dec.{T, eqb, eqb→eq}
use lib.Ieee.{Float, nan, inf, fin, binary32, fits, eq, ne}
use Rattle.ieee.specs.Units.{One, F32, P, N}
use Rattle.ieee.specs.Nearest.{Root}
use Rattle.ieee.proofs.Theorems.{one_pos, zero_f32, zero_mag, mag_pos, eq→, →eq, grid_small, grid_zero}
use Rattle.roots.specs.Root.{root}
use Rattle.roots.proofs.Theorems.{root_nearest}
use Rattle.corners.specs.Choice.{0·0}

-- two tests with one outcome
both_ways : (a b : Bool) → (T a → T b) → (T b → T a) → a ≡ b
both_ways true true f g = refl
both_ways true false f g = absurd (f tt)
both_ways false true f g = absurd (g tt)
both_ways false false f g = refl

refused : (b : Bool) → (T b → ⊥) → b ≡ false
refused true n = absurd (n tt)
refused false n = refl

-- x is a zero
zero→ : (x : Float) → F32 x → N x ≡ 0 → T (eq x 0·0) → P x ≡ 0
zero→ x f n t = let e = eq→ x 0·0 f zero_f32 t in omega (arith, e, n, zero_mag)

→zero : (x : Float) → F32 x → N x ≡ 0 → P x ≡ 0 → T (eq x 0·0)
→zero x f n p = →eq x 0·0 f zero_f32 (let z = zero_mag in omega arith)

-- a root of 0 units has none, and one of more has some, since 1 is nearer
root_of_none : (r : ℕ) {S : ℕ} → Root r S → S ≡ 0 → r ≡ 0
root_of_none zero h e = refl
root_of_none (suc r) h e = absurd (far r (h.below 0 grid_zero (omega arith)) e)
  where
    far : (r : ℕ) {S : ℕ} → (suc r + 0) * (suc r + 0) ≤ 4 * S → S ≡ 0 → ⊥
    far r i e = omega arith

some_of_root : {r S : ℕ} → Root r S → r ≡ 0 → S ≡ 0
some_of_root {r} {S} h e = nothing S (subst (λ (k : ℕ). 4 * S ≤ (k + 1) * (k + 1)) e (h.above 1 (grid_small 1 (omega arith)) (omega (arith, e))))
  where
    nothing : (S : ℕ) → 4 * S ≤ (0 + 1) * (0 + 1) → S ≡ 0
    nothing S i = omega arith

-- of a finite f32 that is not negative
plain : (x : Float) → F32 x → N x ≡ 0 → eq x 0·0 ≡ eq (root x) 0·0
plain x f n =
    both_ways (eq x 0·0) (eq (root x) 0·0) (λ t. →zero (root x) g k (root_of_none (P (root x)) r (ap (λ (v : ℕ). v * One) (zero→ x f n t) ∙ zero-mul One)))
    (λ t. →zero x f n (units (P x) (some_of_root r (zero→ (root x) g k t))))
  where
    g : F32 (root x)
    g = root_nearest.f32 x f n

    k : N (root x) ≡ 0
    k = root_nearest.plus x f n

    r : Root (P (root x)) (P x * One)
    r = root_nearest.near x f n

    units : (v : ℕ) → v * One ≡ 0 → v ≡ 0
    units zero e = refl
    units (suc v) e = absurd (some v One one_pos e)
      where
        some : (v u : ℕ) → 0 < u → suc v * u ≡ 0 → ⊥
        some v zero p e = omega arith
        some v (suc u) p e = omega arith

pub no_root : (x : Float) → T (fits binary32 x) → ne x 0·0 ≡ ne (root x) 0·0
unfolding ne eq root
no_root nan w = refl
no_root (inf false) w = refl
no_root (inf true) w = refl
no_root (fin s zero e) w = refl
no_root (fin false (suc m) e) w = ap not (plain (fin false (suc m) e) (record { fine = tt; fit = w }) refl)
no_root (fin true (suc m) e) w =
    ap not (refused (eq x 0·0) negative)
    ∙ ap (λ (b : Bool). ne (cond b x nan) 0·0) (sym (refused (eqb (suc m) 0) (λ t. omega (arith, eqb→eq (suc m) 0 t))))
  where
    x : Float
    x = fin true (suc m) e

    negative : T (eq x 0·0) → ⊥
    negative t =
        let f : F32 x = record { fine = tt; fit = w } in
        let i = eq→ x 0·0 f zero_f32 t in
        let j = mag_pos true m e f in
        let z = zero_mag in
        omega arith
