-- alpha, the sine by 2 Q, at a rate r that is accepted: times r it is between 531 and 534, being near TAU × 120 / √2. Assumes nothing.
use mathlib.Core.Path.{◌≡◌, refl, sym, ap, ◌∙◌, subst}
use mathlib.Core.Bool.{false}
use Prim.Native.Nat.{ℕ, ◌+◌, ◌-◌, ◌*◌, ◌^◌, ◌≤◌, ◌<◌}
use native.Mathlib.Nat.{le_trans, le_of_eq, lt_of_le_of_lt, mul_assoc, mul_comm, mul-le-mul_left, mul-le-mul_right, le_of_mul-le-mul_right}
use native.Mathlib.Omega.{arith}
use lib.Dec.{lit<, lit≤}
use lib.IntN.{negsuc}
use lib.Ieee.{Float, fin, binary32, fits, add, sum, round}
use lib.Ieee.Positive.{num, den, den_pos}
use Rattle.ieee.specs.Units.{One, mag}
use Rattle.ieee.specs.Bounds as ieee
use Rattle.ieee.proofs.Grid.{rnd, rnd_near, rnd_le}
use Rattle.ieee.proofs.Value.{one_pos, one_grid}
use Rattle.ieee.proofs.Constants.{one_less}
use Rattle.ieee.proofs.Digits.{Plus, plus_of, div_plus}
use Rattle.rates.specs.Rates.{Listed}
use Rattle.rates.specs.Series.{angle_of}
use Rattle.angles.specs.Angle.{w0, numerator_at, down, partial}
use Rattle.angles.specs.Filter.{alpha_of}
use Rattle.angles.specs.FiveTerms.{sine}
use Rattle.angles.proofs.Partial.{Fraction, fraction}
use Rattle.angles.proofs.OneMeant.{size_of}
use Rattle.angles.proofs.Terms.{term_small, t₁, t₂, t₃, t₄, Falling, falling}
use Rattle.angles.proofs.Enclosed.{Within, low, wide}
use Rattle.angles.proofs.Quotient.{at_most_one, square_small, angle_top, angle_bottom}
use Rattle.angles.proofs.MeantAtRates.{w_large, sine_within}

-- ---- the constants
-- Q + Q is 11,863,283 * 2 ^ -23
root : add binary32 (fin false 11863283 (negsuc 23)) (fin false 11863283 (negsuc 23)) ≡ fin false 11863283 (negsuc 22)
unfolding add sum round
root = refl

root_plus : Plus (add binary32 (fin false 11863283 (negsuc 23)) (fin false 11863283 (negsuc 23))) (11863283 * 2 ^ 126)
unfolding mag One fits
root_plus = subst (λ (x : Float). Plus x (11863283 * 2 ^ 126)) (sym root) (record { f32 = record { fine = tt; fit = tt }; up = refl; down = refl })

root_is : 8388608 * (11863283 * 2 ^ 126) ≡ 11863283 * One
unfolding One
root_is = refl

one_root : One ≤ 11863283 * 2 ^ 126
unfolding One
one_root = lit≤ tt

one_60 : One ≡ 2 ^ 60 * 2 ^ 89
unfolding One
one_60 = refl

one_large : 192000000 ≤ One
unfolding One
one_large = lit≤ tt

-- ---- the errors: S is p / q, rounded, where p / q lies from b to h steps of 2 ^ -60; a is S by d, rounded
sine_error : (S p q b h z : ℕ) → 0 < q → Within b h p q → ieee.DifferBy (16777216 * (S * q)) (16777216 * (p * (2 ^ 60 * z))) (p * (2 ^ 60 * z) + 8388608 * q)
    → (16777216 * S ≤ 16777217 * (h * z) + 8388608) × (16777215 * (b * z) ≤ 16777216 * S + 8388608)
sine_error S p q b h z Q w n = (
  le_of_mul-le-mul_right (over (p * 2 ^ 60 * z) (mul-le-mul_right z w.below) (turn n.above)) Q,
  le_of_mul-le-mul_right (under (p * 2 ^ 60 * z) (mul-le-mul_right z w.above) (turn' n.below)) Q,
)
  where
    turn : 16777216 * (S * q) ≤ 16777216 * (p * (2 ^ 60 * z)) + (p * (2 ^ 60 * z) + 8388608 * q) → 16777216 * (S * q) ≤ 16777217 * (p * 2 ^ 60 * z) + 8388608 * q
    turn e = omega arith

    turn' : 16777216 * (p * (2 ^ 60 * z)) ≤ 16777216 * (S * q) + (p * (2 ^ 60 * z) + 8388608 * q) → 16777215 * (p * 2 ^ 60 * z) ≤ 16777216 * (S * q) + 8388608 * q
    turn' e = omega arith

    over : (x : ℕ) → x ≤ h * q * z → 16777216 * (S * q) ≤ 16777217 * x + 8388608 * q → 16777216 * S * q ≤ (16777217 * (h * z) + 8388608) * q
    over x e f = omega arith

    under : (x : ℕ) → b * q * z ≤ x → 16777215 * x ≤ 16777216 * (S * q) + 8388608 * q → 16777215 * (b * z) * q ≤ (16777216 * S + 8388608) * q
    under x e f = omega arith

alpha_error : (a d S o : ℕ) → 0 < o → 8388608 * d ≡ 11863283 * o → ieee.DifferBy (16777216 * (a * d)) (16777216 * (S * o)) (S * o + 8388608 * d)
    → (23726566 * a ≤ 16777217 * S + 11863283) × (16777215 * S ≤ 23726566 * a + 11863283)
alpha_error a d S o O e n = (le_of_mul-le-mul_right (over n.above) O, le_of_mul-le-mul_right (under n.below) O)
  where
    f : a * (8388608 * d) ≡ a * (11863283 * o)
    f = ap (λ (k : ℕ). a * k) e

    over : 16777216 * (a * d) ≤ 16777216 * (S * o) + (S * o + 8388608 * d) → 23726566 * a * o ≤ (16777217 * S + 11863283) * o
    over h = omega (arith, f)

    under : 16777216 * (S * o) ≤ 16777216 * (a * d) + (S * o + 8388608 * d) → 16777215 * S * o ≤ (23726566 * a + 11863283) * o
    under h = omega (arith, f)

module _ {r : ℕ} (l : Listed r) where
  abbrev w : ℕ
  w = angle_of r

  abbrev x : Float
  x = w0 r

  abbrev t : ℕ
  t = w * 2 ^ 28

  abbrev p : ℕ
  p = numerator_at 1 (num x) (den x) 4

  abbrev q : ℕ
  q = down 1 (den x) 4

  abbrev b : ℕ
  b = low 1 w t

  abbrev h : ℕ
  h = low 1 w t + wide 1 w t

  below_one : Fraction p q
  below_one = fraction 1 (num x) (den x) (at_most_one l) (den_pos x) 4

  r_tiny : 1000 * r ≤ One
  r_tiny = le_trans (mul-le-mul_left 1000 l.high) one_large

  -- ---- the sine, from 383 / 384 of the angle to the angle
  abbrev S : ℕ
  S = rnd (p * One) q

  sine_is : sine x ≡ round binary32 false p q
  unfolding sine partial
  sine_is = refl

  sine_plus : Plus (sine x) S
  sine_plus = subst (λ (z : Float). Plus z S) (sym sine_is) (plus_of (size_of p q below_one))

  range : (383 * t ≤ 384 * (b + 4)) × (h ≤ t + 4)
  range = go t (t₁ 1 w t) (t₂ 1 w t) (t₃ 1 w t) (t₄ 1 w t) (omega (arith, w_large l)) (term_small (w * w) t 6 (square_small l)) (falling 1 w t (square_small l))
    where
      go : (t u v m n : ℕ) → 2 ^ 40 ≤ t → 64 * (6 * u) ≤ t → Falling t u v m n → (383 * t ≤ 384 * (t + v - (u + m + 4) + 4)) × (t + v - (u + m + 4) + (n + 8) ≤ t + 4)
      go t u v m n i j f = (omega arith, omega arith)

  S-near : (16777216 * S ≤ 16777217 * (h * 2 ^ 89) + 8388608) × (16777215 * (b * 2 ^ 89) ≤ 16777216 * S + 8388608)
  S-near =
      sine_error S p q b h (2 ^ 89) below_one.some (sine_within l)
      (subst (λ (o : ℕ). ieee.DifferBy (16777216 * (S * q)) (16777216 * (p * o)) (p * o + 8388608 * q)) one_60 (rnd_near (p * One) q below_one.some))

  S-high : S * r ≤ 754 * One
  S-high =
      go S h (2 ^ 89) One (mul-le-mul_right r S-near.0)
      (le_trans (mul-le-mul_right (2 ^ 89) (times w h (angle_top l) range.1)) (le_of_eq (mul_assoc 753983 (2 ^ 60) (2 ^ 89) ∙ ap (λ (o : ℕ). 753983 * o) (sym one_60)))) r_tiny
    where
      times : (w h : ℕ) → w * r ≤ 3238329250304 → h ≤ w * 2 ^ 28 + 4 → 1000 * (h * r) ≤ 753983 * 2 ^ 60
      times w h m n = let k : h * r ≤ (w * 2 ^ 28 + 4) * r = mul-le-mul_right r n in omega (arith, l.high)

      go : (S h z o : ℕ) → 16777216 * S * r ≤ (16777217 * (h * z) + 8388608) * r → 1000 * (h * r) * z ≤ 753983 * o → 1000 * r ≤ o → S * r ≤ 754 * o
      go S h z o m n k = omega arith

  S-low : 752 * One ≤ S * r
  S-low =
      go S b (2 ^ 89) One (mul-le-mul_right r S-near.1)
      (le_trans (le_of_eq (ap (λ (o : ℕ). 752018 * o) one_60 ∙ sym (mul_assoc 752018 (2 ^ 60) (2 ^ 89))))
      (mul-le-mul_right (2 ^ 89) (times w b (angle_bottom l) range.0))) r_tiny
    where
      times : (w b : ℕ) → 3238328864256 ≤ w * r → 383 * (w * 2 ^ 28) ≤ 384 * (b + 4) → 752018 * 2 ^ 60 ≤ 1000 * (b * r)
      times w b m n = let k : 383 * (w * 2 ^ 28) * r ≤ 384 * (b + 4) * r = mul-le-mul_right r n in omega (arith, l.high)

      go : (S b z o : ℕ) → 16777215 * (b * z) * r ≤ (16777216 * S + 8388608) * r → 752018 * o ≤ 1000 * (b * r) * z → 1000 * r ≤ o → 752 * o ≤ S * r
      go S b z o m n k = omega arith

  -- ---- alpha
  abbrev d : ℕ
  d = 11863283 * 2 ^ 126

  abbrev pub a : ℕ
  a = rnd (S * One) d

  d_pos : 0 < d
  d_pos = lit< tt

  S-most : S ≤ One
  S-most = rnd_le one_grid (p * One) q below_one.some (le_trans (mul-le-mul_right One below_one.most) (le_of_eq (mul_comm q One)))

  a_most : a ≤ One
  a_most = rnd_le one_grid (S * One) d d_pos (le_trans (mul-le-mul_right One (le_trans S-most one_root)) (le_of_eq (mul_comm d One)))

  pub alpha_plus : Plus (alpha_of (sine x)) a
  alpha_plus = div_plus sine_plus root_plus d_pos (record { is = refl; less = lt_of_le_of_lt a_most one_less })

  a_near : (23726566 * a ≤ 16777217 * S + 11863283) × (16777215 * S ≤ 23726566 * a + 11863283)
  a_near = alpha_error a d S One one_pos root_is (rnd_near (S * One) d d_pos)

  pub a_low : 531 * One ≤ a * r
  a_low = go a S One S-low r_tiny (mul-le-mul_right r a_near.1)
    where
      go : (a s o : ℕ) → 752 * o ≤ s * r → 1000 * r ≤ o → 16777215 * s * r ≤ (23726566 * a + 11863283) * r → 531 * o ≤ a * r
      go a s o m n k = omega arith

  pub a_high : a * r ≤ 534 * One
  a_high = go a S One S-high r_tiny (mul-le-mul_right r a_near.0)
    where
      go : (a s o : ℕ) → s * r ≤ 754 * o → 1000 * r ≤ o → 23726566 * a * r ≤ (16777217 * s + 11863283) * r → a * r ≤ 534 * o
      go a s o m n k = omega arith
