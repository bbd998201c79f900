-- The grid's coordinates are exact: each is worked out. Assumes nothing.
use mathlib.Core.Path.{refl, sym, subst}
use mathlib.Core.Logic.{inl, inr}
use mathlib.Core.Bool.{Bool, true, ◌&&◌}
use Prim.Native.Nat.{ℕ, zero, suc, ◌+◌, ◌*◌, ◌≤◌, ◌<◌}
use native.Mathlib.Nat.{eq-or-lt_of_le}
use native.Mathlib.Omega.{arith}
use lib.Dec.{T, eqb, eqb→eq}
use lib.Ieee.{add, sub, div, round, of_int}
use lib.Ieee.Fits.{and_l, and_r}
use Rattle.ieee.specs.Units.{One, mag, P, N}
use Rattle.finding.specs.Grid.{across_at, up_at, across_count, up_count, Steps}

-- a test holds of all numbers below n
all_below : (ℕ → Bool) → ℕ → Bool
all_below f zero = true
all_below f (suc n) = f n && all_below f n

of_all : (f : ℕ → Bool) (n : ℕ) → T (all_below f n) → (i : ℕ) → i < n → T (f i)
unfolding all_below
of_all f zero t i h = absurd (omega (arith, h))
of_all f (suc n) t i h = elim (eq-or-lt_of_le (let k : i ≤ n = omega (arith, h) in k)) [
  | inl e ↦ subst (λ (k : ℕ). T (f k)) (sym e) (and_l (f n) (all_below f n) t)
  | inr l ↦ of_all f n (and_r (f n) (all_below f n) t) i l
]

across_test : ℕ → Bool
across_test i = eqb (32 * P (across_at i) + 32 * One) (i * One + 32 * N (across_at i))

up_test : ℕ → Bool
up_test j = eqb (16 * P (up_at j)) (j * One + 16 * N (up_at j))

across_all : T (all_below across_test across_count)
unfolding all_below across_test across_at add sub div round of_int mag One
across_all = tt

up_all : T (all_below up_test up_count)
unfolding all_below up_test up_at add sub div round of_int mag One
up_all = tt

pub steps : Steps
unfolding across_test up_test across_at up_at add sub div round of_int
steps = record {
  across = λ i h. eqb→eq (32 * P (across_at i) + 32 * One) (i * One + 32 * N (across_at i)) (of_all across_test across_count across_all i h);
  up = λ j h. eqb→eq (16 * P (up_at j)) (j * One + 16 * N (up_at j)) (of_all up_test up_count up_all j h);
  middle = refl;
  floor = refl;
}
