-- What is asked of the coefficients: they are fractions of whole numbers, in the box; with bounds on their size. Assumes nothing.
use Prim.Native.Nat.{ℕ, ◌+◌, ◌*◌, ◌≤◌}
use native.Mathlib.Nat.{le_trans, mul-le-mul, le_of_mul-le-mul_right}
use native.Mathlib.Omega.{arith}
use lib.IntN.{pos, neg_ℤ}
use lib.Ieee.{Float}
use Rattle.ieee.proofs.Near.{Ratio}
use Rattle.lowpass.proofs.Boxed.{InBox}

pub record Passing (rate : ℕ) (a1 a2 b0 b1 b2 : Float) : Type 0 where
  pub α : ℕ
  pub A : ℕ
  pub k : ℕ
  pub β₀ : ℕ
  pub β₁ : ℕ
  pub β₂ : ℕ
  pub a1_is : Ratio a1 (neg_ℤ (pos A)) 16777216
  pub a2_is : Ratio a2 (pos α) 16777216
  pub b0_is : Ratio b0 (pos β₀) 281474976710656
  pub b1_is : Ratio b1 (pos β₁) 281474976710656
  pub b2_is : Ratio b2 (pos β₂) 281474976710656
  pub box : InBox rate α A k
  pub rate_high : rate ≤ 192000
  pub gain : rate * rate * (β₀ + β₁ + β₂) ≤ 160800000000000000000

-- ---- sizes
module _ {rate α A k : ℕ} (h : InBox rate α A k) where
  pub α-high : α ≤ 16777216
  α-high = le_of_mul-le-mul_right {k = rate} (omega (arith, h.slope_low)) (omega (arith, h.rate_low))

  pub A-high : A ≤ 33554432
  A-high = omega (arith, h.stiffness, α-high)

  pub β-high : (β γ : ℕ) → β ≤ γ → rate * rate * γ ≤ 160800000000000000000 → β ≤ 281474976710656
  β-high β γ l g = fit (le_trans (mul-le-mul (mul-le-mul h.rate_low h.rate_low) l) g)
    where
      fit : 7540 * 7540 * β ≤ 160800000000000000000 → β ≤ 281474976710656
      fit h = omega arith
