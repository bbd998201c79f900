-- Where r - 1 / 2 is below the root and r + 1 / 2 is not, r is the nearest whole number. s stands for r + 1. Assumes nothing.
use mathlib.Core.Path.{◌≡◌, sym, subst}
use mathlib.Core.Logic.{inl, inr}
use Prim.Native.Nat.{ℕ, zero, suc, ◌+◌, ◌-◌, ◌*◌, ◌/◌, ◌^◌, ◌≤◌, ◌<◌}
use native.Mathlib.Nat.{le_trans, le_of_lt, lt_of_lt_of_le, lt_of_le_of_lt, lt_irrefl, mul-le-mul}
use native.Mathlib.Omega.{arith}
use lib.Dec.{lit<, lit≤}
use Rattle.roots.specs.Whole.{top_of, Spanned, NearWhole}
use Rattle.ieee.proofs.Grid.{le_or_lt}

top_mono : {r s : ℕ} → r ≤ s → top_of r ≤ top_of s
unfolding top_of
top_mono {r} {s} h = let x : 2 * r - 1 ≤ 2 * s - 1 = omega arith in upper (mul-le-mul (mul-le-mul x x) (mul-le-mul x x))
  where
    upper : {x y : ℕ} → x ≤ y → x / 18446744073709551616 ≤ y / 18446744073709551616
    upper h = omega arith

-- ---- the numbers whose roots have 24 digits
pub ranged_square : (n : ℕ) → 2 ^ 46 ≤ n → n < 2 ^ 48 → (8388608 * (8388608 - 1) < n) × (n ≤ 16777217 * (16777217 - 1))
ranged_square n l h = (lt_of_lt_of_le (lit< tt) l, le_trans (le_of_lt h) (lit≤ tt))

pub ranged_fourth : (n : ℕ) → 2 ^ 32 ≤ n → n < 2 ^ 36 → Spanned n
unfolding top_of
ranged_fourth n l h = record { first = lt_of_lt_of_le (lit< tt) l; past = le_trans (le_of_lt h) (lit≤ tt) }

-- ---- a test on what the code works out is one on the definition
pub below : {t u n : ℕ} → t ≡ u → t < n → u < n
below e h = omega arith

pub not_below : {t u n : ℕ} → t ≡ u → n ≤ t → n ≤ u
not_below e h = omega arith

-- ---- the tests of a square root with one product, that of r with itself: r * (r - 1) is the whole part of (r - 1 / 2) ^ 2
pub below_square : (r s n : ℕ) → s ≡ r * r → s < n + r → r * (r - 1) < n
below_square zero s n e h = omega arith
below_square (suc k) s n e h = let f : suc k - 1 ≡ k = omega arith in subst (λ (x : ℕ). suc k * x < n) (sym f) (omega arith)

pub up_to_square : (r s n : ℕ) → s ≡ r * r → n ≤ s + r → n ≤ (r + 1) * (r + 1 - 1)
up_to_square r s n e h = let f : r + 1 - 1 ≡ r = omega arith in subst (λ (x : ℕ). n ≤ (r + 1) * x) (sym f) (omega arith)

-- ---- from the tests on both sides
module _ (n : ℕ) (i : Spanned n) where
  pub large : (s : ℕ) → n ≤ top_of s → 8388608 < s
  large s h = elim (le_or_lt s 8388608) [ inr l ↦ l | inl l ↦ absurd (lt_irrefl n (lt_of_le_of_lt h (lt_of_le_of_lt (top_mono l) i.first))) ]

  pub near : (r s : ℕ) → s ≡ r + 1 → top_of r < n → n ≤ top_of s → NearWhole n r
  near r s e under over = record { low = omega (arith, large s over); high = high; under = under; over = subst (λ (x : ℕ). n ≤ top_of x) e over }
    where
      high : r ≤ 16777216
      high = elim (le_or_lt r 16777216) [ inl l ↦ l | inr l ↦ absurd (lt_irrefl n (lt_of_le_of_lt (le_trans i.past (top_mono l)) under)) ]
