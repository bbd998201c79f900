-- A share lies from 0 to 1, and so does what it leaves: where its two ends are equal, or where the position lies between them. Assumes nothing.
use mathlib.Core.Path.{◌≡◌, refl, sym, subst}
use mathlib.Core.Logic.{◌⊎◌, inl, inr}
use mathlib.Core.Bool.{Bool, true, false, not, cond}
use Prim.Native.Nat.{ℕ, ◌+◌, ◌≤◌, ◌<◌, zero-le}
use native.Mathlib.Nat.{le_of_lt, zero-lt-suc}
use native.Mathlib.Omega.{arith}
use lib.Dec.{T, T_not, leb, leb→le, nleb→lt, lit<, lit≤}
use lib.Ieee.{Float, binary32, fits, le, eq, sub, div}
use Rattle.ieee.specs.Units.{One, F32, Unitary, P, N}
use Rattle.ieee.proofs.Constants.{zero_f32, zero_mag, whole_grid, whole_less}
use Rattle.ieee.proofs.Ops.{small}
use Rattle.ieee.proofs.Compare.{le→, →le, →lt, →eq}
use Rattle.ieee.proofs.Share.{Shared, left_over, share}
use Rattle.corners.specs.Choice.{0·0, 1·0}
use Rattle.panning.specs.Terms.{ratio}
use Rattle.corners.proofs.Tables.{finite_between}

-- the ends a and b of an axis about v
abbrev pub Beside : Float → Float → Float → Type 0
Beside a b v = T (eq a b) ⊎ (T (le a v) × T (not (le b v)))

pub eq_self : (x : Float) → F32 x → T (eq x x)
eq_self x f = →eq x x f f refl

-- ---- between the ends
nle→ : (x y : Float) → F32 x → F32 y → T (not (le x y)) → P y + N x < P x + N y
nle→ x y f g h = go (leb (P x + N y) (P y + N x)) (leb→le (P x + N y) (P y + N x)) (nleb→lt (P x + N y) (P y + N x))
  where
    go : (b : Bool) → (T b → P x + N y ≤ P y + N x) → (T (not b) → P y + N x < P x + N y) → P y + N x < P x + N y
    go true l k = absurd (T_not (le x y) h (→le x y f g (l tt)))
    go false l k = k tt

inside : (a b v : Float) → Unitary a → Unitary b → T (fits binary32 v) → T (le a v) → T (not (le b v))
    → let s = div binary32 (sub binary32 v a) (sub binary32 b a) in Shared s (sub binary32 1·0 s)
inside a b v ta tb fv h k =
    let fa = ta.f32 in
    let fb = tb.f32 in
    let f : F32 v = record { fine = finite_between a b v fa.fine fb.fine h (inr k); fit = fv } in
    let i = le→ a v fa f h in
    let j = nle→ b v fb f k in
    share a v b fa f fb h (→le v b f fb (le_of_lt j)) (→lt a b fa fb (through (P a) (N a) (P v) (N v) (P b) (N b) i j))
    (small (whole_grid 2 (lit< tt)) (whole_less 2 (lit≤ tt)) (P b + N a) (N b + P a) 1 (zero-lt-suc 0) (omega (arith, tb.high, ta.deep)) (omega (arith, tb.deep, ta.high)))
  where
    through : (a a' v v' b b' : ℕ) → a + v' ≤ v + a' → v + b' < b + v' → a + b' < b + a'
    through a a' v v' b b' h k = omega arith

-- ---- the share
abbrev pub Part : Float → Type 0
Part s = Shared s (sub binary32 1·0 s)

pub ratio_zero : (a b v : Float) → T (eq a b) → ratio a b v ≡ 0·0
unfolding ratio
ratio_zero a b v t = go (eq a b) t
  where
    go : (c : Bool) → T c → cond c 0·0 (div binary32 (sub binary32 v a) (sub binary32 b a)) ≡ 0·0
    go true t = refl
    go false t = absurd t

pub ratio_part : (a b v : Float) → Unitary a → Unitary b → T (fits binary32 v) → Beside a b v → Part (ratio a b v)
unfolding ratio
ratio_part a b v ta tb fv w = go (eq a b) (λ t. t) (λ t. elim w [ inl e ↦ absurd (T_not (eq a b) t e) | inr h ↦ inside a b v ta tb fv h.0 h.1 ])
  where
    go : (c : Bool) → (T c → T (eq a b)) → (T (not c) → Part (div binary32 (sub binary32 v a) (sub binary32 b a)))
        → Part (cond c 0·0 (div binary32 (sub binary32 v a) (sub binary32 b a)))
    go true h k = left_over 0·0 zero_f32 refl (subst (λ (n : ℕ). n ≤ One) (sym zero_mag) zero-le)
    go false h k = k tt
