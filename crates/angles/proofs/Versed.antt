-- The cosine at a rate r that is accepted is C / 2 ^ 24, C being nearest to the exact sum; and how large v = 2 ^ 24 - C is: 2 v r² is near (TAU × 120)² 2 ^ 24. Assumes nothing.
use mathlib.Core.Path.{◌≡◌, refl, sym, ap, ◌∙◌, subst}
use mathlib.Core.Bool.{false}
use Prim.Native.Nat.{ℕ, ◌+◌, ◌-◌, ◌*◌, ◌/◌, ◌^◌, ◌≤◌, ◌<◌}
use native.Mathlib.Nat.{le_trans, le_of_eq, le_of_lt, lt_of_le_of_lt, mul_assoc}
use native.Mathlib.Nat.{mul-le-mul, mul-le-mul_right, mul-lt-mul_of_pos_right, le_of_mul-le-mul_right, lt_of_mul-lt-mul_right}
use native.Mathlib.Omega.{arith}
use lib.Dec.{lit≤}
use lib.Pow.{pow_pos}
use lib.Ieee.{Float, binary32, round}
use lib.Ieee.Nearest.{closest}
use lib.Ieee.Positive.{num, den, den_pos}
use Rattle.ieee.specs.Units.{One}
use Rattle.ieee.specs.Bounds as ieee
use Rattle.ieee.proofs.Grid.{closest_near}
use Rattle.ieee.proofs.Closest.{rnd_closest}
use Rattle.ieee.proofs.Digits.{Plus, plus_of, closest_most}
use Rattle.rates.specs.Rates.{Listed}
use Rattle.rates.specs.Series.{angle_of}
use Rattle.angles.specs.Angle.{w0, numerator_at, down, partial}
use Rattle.angles.specs.FiveTerms.{cosine}
use Rattle.angles.proofs.Partial.{Fraction, fraction}
use Rattle.angles.proofs.OneMeant.{size_of}
use Rattle.angles.proofs.Terms.{term_small, t₁, t₂, t₃, t₄, Falling, falling}
use Rattle.angles.proofs.Enclosed.{Within, low, wide}
use Rattle.angles.proofs.Quotient.{at_most_one, square_small, angle_top, angle_bottom}
use Rattle.angles.proofs.MeantAtRates.{y_large, cosine_within}
use Rattle.angles.proofs.Made.{one_24}

-- ---- C is nearest to 2 ^ 24 p / q, and p / q lies from b to h steps of 2 ^ -60
in_steps : (C p q b h : ℕ) → 0 < q → Within b h p q → ieee.DifferBy (2 * (C * q)) (2 * (p * 16777216)) q → (2 * (C * 2 ^ 36) ≤ 2 * h + 2 ^ 36) × (2 * b ≤ 2 * (C * 2 ^ 36) + 2 ^ 36)
in_steps C p q b h Q w n = (le_of_mul-le-mul_right (over w.below n.above) Q, le_of_mul-le-mul_right (under w.above n.below) Q)
  where
    over : p * 2 ^ 60 ≤ h * q → 2 * (C * q) ≤ 2 * (p * 16777216) + q → 2 * (C * 2 ^ 36) * q ≤ (2 * h + 2 ^ 36) * q
    over e f = omega arith

    under : b * q ≤ p * 2 ^ 60 → 2 * (p * 16777216) ≤ 2 * (C * q) + q → 2 * b * q ≤ (2 * (C * 2 ^ 36) + 2 ^ 36) * q
    under e f = omega arith

-- ---- by the terms of the series
module _ (C c₁ c₂ c₃ c₄ : ℕ) (falls : Falling (2 ^ 60) c₁ c₂ c₃ c₄) (second : 768 * c₂ ≤ c₁) (few : C ≤ 16777216)
    (above : 2 * (C * 2 ^ 36) ≤ 2 * (2 ^ 60 + c₂ - (c₁ + c₃ + 4) + (c₄ + 8)) + 2 ^ 36) (below : 2 * (2 ^ 60 + c₂ - (c₁ + c₃ + 4)) ≤ 2 * (C * 2 ^ 36) + 2 ^ 36) where
  versed_high : 2 * ((16777216 - C) * 2 ^ 36) ≤ 2 * c₁ + 8 + 2 ^ 36
  versed_high = omega arith

  versed_low : 1534 * c₁ ≤ 768 * (2 * ((16777216 - C) * 2 ^ 36) + 8 + 2 ^ 36)
  versed_low = omega arith

module _ {r : ℕ} (l : Listed r) where
  abbrev w : ℕ
  w = angle_of r

  abbrev x : Float
  x = w0 r

  abbrev p : ℕ
  p = numerator_at 0 (num x) (den x) 4

  abbrev q : ℕ
  q = down 0 (den x) 4

  abbrev b : ℕ
  b = low 0 w (2 ^ 60)

  abbrev h : ℕ
  h = low 0 w (2 ^ 60) + wide 0 w (2 ^ 60)

  abbrev pub C : ℕ
  C = closest (p * 16777216) q

  abbrev pub v : ℕ
  v = 16777216 - C

  below_one : Fraction p q
  below_one = fraction 0 (num x) (den x) (at_most_one l) (den_pos x) 4

  -- ---- the terms
  abbrev c₁ : ℕ
  c₁ = t₁ 0 w (2 ^ 60)

  falls : Falling (2 ^ 60) c₁ (t₂ 0 w (2 ^ 60)) (t₃ 0 w (2 ^ 60)) (t₄ 0 w (2 ^ 60))
  falls = falling 0 w (2 ^ 60) (square_small l)

  -- half the square of the angle, cut
  half_square : (32 * c₁ ≤ w * w) × (w * w ≤ 32 * c₁ + 31)
  half_square = go (w * w)
    where
      go : (y : ℕ) → (32 * (y * 2 ^ 60 / 2 ^ 64 / 2) ≤ y) × (y ≤ 32 * (y * 2 ^ 60 / 2 ^ 64 / 2) + 31)
      go y = (omega arith, omega arith)

  c₁_size : (2 ^ 40 ≤ c₁) × (c₁ ≤ 2 ^ 53)
  c₁_size = go (w * w) c₁ (y_large l) (square_small l) half_square
    where
      go : (y c : ℕ) → 2 ^ 46 ≤ y → y < 2 ^ 58 → (32 * c ≤ y) × (y ≤ 32 * c + 31) → (2 ^ 40 ≤ c) × (c ≤ 2 ^ 53)
      go y c m n o = (omega (arith, o.1), omega (arith, o.0))

  second : 768 * t₂ 0 w (2 ^ 60) ≤ c₁
  second = go (t₂ 0 w (2 ^ 60)) c₁ (term_small (w * w) c₁ 12 (square_small l))
    where
      go : (s t : ℕ) → 64 * (12 * s) ≤ t → 768 * s ≤ t
      go s t h = omega arith

  -- ---- all 24 digits
  range : (2 ^ 59 ≤ b) × (h < 2 ^ 60)
  range = go c₁ (t₂ 0 w (2 ^ 60)) (t₃ 0 w (2 ^ 60)) (t₄ 0 w (2 ^ 60)) c₁_size.0 c₁_size.1 falls
    where
      go : (t u m n : ℕ) → 2 ^ 40 ≤ t → t ≤ 2 ^ 53 → Falling (2 ^ 60) t u m n → (2 ^ 59 ≤ 2 ^ 60 + u - (t + m + 4)) × (2 ^ 60 + u - (t + m + 4) + (n + 8) < 2 ^ 60)
      go t u m n c d f = (omega arith, omega arith)

  least : 8388608 * q ≤ p * 16777216
  least = le_of_mul-le-mul_right (go p q (le_trans (mul-le-mul_right q range.0) (cosine_within l).above)) (pow_pos 36)
    where
      go : (p q : ℕ) → 2 ^ 59 * q ≤ p * 2 ^ 60 → 8388608 * q * 2 ^ 36 ≤ p * 16777216 * 2 ^ 36
      go p q h = omega arith

  most : p * 16777216 < 16777216 * q
  most = lt_of_mul-lt-mul_right (2 ^ 36) (go p q (lt_of_le_of_lt (cosine_within l).below (mul-lt-mul_of_pos_right range.1 below_one.some)))
    where
      go : (p q : ℕ) → p * 2 ^ 60 < 2 ^ 60 * q → p * 16777216 * 2 ^ 36 < 16777216 * q * 2 ^ 36
      go p q h = omega arith

  cosine_is : cosine x ≡ round binary32 false p q
  unfolding cosine partial
  cosine_is = refl

  pub cosine_plus : Plus (cosine x) (C * 2 ^ 125)
  cosine_plus =
      let e = ap (λ (k : ℕ). p * k * q) one_24 ∙ ap (λ (k : ℕ). k * q) (sym (mul_assoc p 16777216 (2 ^ 125))) in
      subst (λ (z : Float). Plus z (C * 2 ^ 125)) (sym cosine_is)
      (subst (Plus (round binary32 false p q)) (rnd_closest (p * One) q (p * 16777216) q 125 below_one.some below_one.some e least most) (plus_of (size_of p q below_one)))

  C-few : C ≤ 16777216
  C-few = closest_most (p * 16777216) q 16777216 below_one.some (le_of_lt most)

  pub whole : C + v ≡ 16777216
  whole = go C C-few
    where
      go : (c : ℕ) → c ≤ 16777216 → c + (16777216 - c) ≡ 16777216
      go c h = omega arith

  -- ---- the size of v
  near : (2 * (C * 2 ^ 36) ≤ 2 * h + 2 ^ 36) × (2 * b ≤ 2 * (C * 2 ^ 36) + 2 ^ 36)
  near = in_steps C p q b h below_one.some (cosine_within l) (closest_near (p * 16777216) q below_one.some)

  v_above : 2 * (v * 2 ^ 36) ≤ 2 * c₁ + 8 + 2 ^ 36
  v_above = versed_high C c₁ (t₂ 0 w (2 ^ 60)) (t₃ 0 w (2 ^ 60)) (t₄ 0 w (2 ^ 60)) falls second C-few near.0 near.1

  v_below : 1534 * c₁ ≤ 768 * (2 * (v * 2 ^ 36) + 8 + 2 ^ 36)
  v_below = versed_low C c₁ (t₂ 0 w (2 ^ 60)) (t₃ 0 w (2 ^ 60)) (t₄ 0 w (2 ^ 60)) falls second C-few near.0 near.1

  pub v_some : 4 ≤ v
  v_some = go v c₁ c₁_size.0 v_below
    where
      go : (v c : ℕ) → 2 ^ 40 ≤ c → 1534 * c ≤ 768 * (2 * (v * 2 ^ 36) + 8 + 2 ^ 36) → 4 ≤ v
      go v c m n = omega arith

  pub v_few : v ≤ 262144
  v_few = go v c₁ c₁_size.1 v_above
    where
      go : (v c : ℕ) → c ≤ 2 ^ 53 → 2 * (v * 2 ^ 36) ≤ 2 * c + 8 + 2 ^ 36 → v ≤ 262144
      go v c m n = omega arith

  -- (w r)² is the square of the angle times r²
  squares : w * w * (r * r) ≡ w * r * (w * r)
  squares = go w
    where
      go : (w : ℕ) → w * w * (r * r) ≡ w * r * (w * r)
      go w = omega arith

  pub v_high : 2 * (v * (r * r)) ≤ 9538000000000 + r * r
  v_high =
      go (w * w) c₁ v (r * r) (mul-le-mul l.high l.high) (le_trans (le_of_eq squares) (mul-le-mul (angle_top l) (angle_top l)))
      (mul-le-mul_right (r * r) half_square.0) (mul-le-mul_right (r * r) v_above)
    where
      go : (y c v Q : ℕ) → Q ≤ 36864000000 → y * Q ≤ 10486776333374466684092416 → 32 * c * Q ≤ y * Q → 2 * (v * 2 ^ 36) * Q ≤ (2 * c + 8 + 2 ^ 36) * Q
          → 2 * (v * Q) ≤ 9538000000000 + Q
      go y c v Q i j m n = omega arith

  pub v_low : 9524000000000 ≤ 2 * (v * (r * r)) + r * r
  v_low =
      le_of_mul-le-mul_right
      (go (w * w) c₁ v (r * r) (2 ^ 36) (lit≤ tt) (mul-le-mul l.high l.high)
      (le_trans (lit≤ tt) (le_trans (mul-le-mul (angle_bottom l) (angle_bottom l)) (le_of_eq (sym squares))))
      (mul-le-mul_right (r * r) half_square.1) (mul-le-mul_right (r * r) v_below)) (pow_pos 36)
    where
      go : (y c v Q k : ℕ) → 68719476736 ≤ k → Q ≤ 36864000000 → 152592000000000 * k ≤ y * Q → y * Q ≤ (32 * c + 31) * Q
          → 1534 * c * Q ≤ 768 * (2 * (v * k) + 8 + k) * Q → 9524000000000 * k ≤ (2 * (v * Q) + Q) * k
      go y c v Q k i j m n o = omega arith
