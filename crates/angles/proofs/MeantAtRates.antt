-- At every rate that is accepted: what the code makes of the cut sums is the f32 meant, the sums of five terms round to it, and no other f32 is meant. Assumes nothing.
use mathlib.Core.Path.{◌≡◌, refl, sym, ap, ap₂, ◌∙◌, subst}
use mathlib.Core.Bool.{false}
use Prim.Native.Nat.{ℕ, ◌+◌, ◌*◌, ◌/◌, ◌^◌, ◌≤◌, ◌<◌}
use native.Mathlib.Nat.{lt_trans, lt_of_lt_of_le, mul-le-mul, pow-zero}
use native.Mathlib.Omega.{arith}
use lib.Dec.{T, lit<, lit≤}
use lib.Pow.{pow-add}
use lib.Ieee.{Float, binary32, round}
use lib.Ieee.Fits.{and_l, and_r}
use lib.Ieee.Positive.{num, den, den_pos}
use Rattle.rates.specs.Rates.{Listed}
use Rattle.rates.specs.Series.{step_of, angle_of, five, cosine_sum, sine_sum}
use Rattle.rates.specs.Suffice as test
use Rattle.rates.proofs.Every.{every_rate}
use Rattle.angles.specs.Angle.{w0, numerator_at, down, Meant}
use Rattle.angles.specs.Filter.{coefficients_of, LowpassAt}
use Rattle.angles.specs.FiveTerms.{cosine, sine, coefficients_at}
use Rattle.angles.specs.declared.filter.Coefficients.{Coefficients}
use Rattle.angles.proofs.Partial.{one_power}
use Rattle.angles.proofs.Terms.{sum_less}
use Rattle.angles.proofs.Enclosed.{Within, low, wide, low_large}
use Rattle.angles.proofs.Enclosed as enclosed
use Rattle.angles.proofs.Settled.{Both}
use Rattle.angles.proofs.Settled as settled
use Rattle.angles.proofs.Quotient.{stepped, s_pos, fraction, square_small, angle_small, angle_large, at_most_one}
use Rattle.angles.proofs.OneMeant.{meant_unique}

-- the f32 that `nearest` makes of n steps of 2 ^ -60
abbrev pub made : ℕ → Float
made n = round binary32 false (2 * (n / 2 ^ 13) + 1) (2 ^ 48)

module _ {r : ℕ} (l : Listed r) where
  abbrev w : ℕ
  w = angle_of r

  abbrev x : Float
  x = w0 r

  abbrev s : ℕ
  s = step_of r

  abbrev y : ℕ
  y = w * w

  tests : T (test.round_alike y (2 ^ 60) 2 12 30 56 (2 ^ 35)) × T (test.round_alike y (w * 2 ^ 28) 6 20 42 72 (s * 2 ^ 26))
  unfolding angle_of
  tests =
      let a = test.round_alike y (2 ^ 60) 2 12 30 56 (2 ^ 35) in
      let b = test.round_alike y (w * 2 ^ 28) 6 20 42 72 (s * 2 ^ 26) in
      (and_l a b (every_rate r l), and_r a b (every_rate r l))

  -- ---- the first terms are exact
  cosine_first : 2 ^ 60 * den x ^ 0 ≡ num x ^ 0 * 2 ^ 60
  cosine_first = ap (λ (k : ℕ). 2 ^ 60 * k) (pow-zero (den x)) ∙ sym (ap (λ (k : ℕ). k * 2 ^ 60) (pow-zero (num x)))

  sine_first : w * 2 ^ 28 * den x ^ 1 ≡ num x ^ 1 * 2 ^ 60
  sine_first = ap (λ (k : ℕ). w * 2 ^ 28 * k) (one_power (den x)) ∙ go w (num x) (den x) (fraction l) ∙ sym (ap (λ (k : ℕ). k * 2 ^ 60) (one_power (num x)))
    where
      go : (w a c : ℕ) → a * 2 ^ 32 ≡ w * c → w * 2 ^ 28 * c ≡ a * 2 ^ 60
      go w a c e = omega arith

  -- ---- sizes
  abbrev e : ℕ
  e = (stepped l).e

  s_power : s * 2 ^ 26 ≡ 2 ^ (13 + (13 + e))
  s_power = ap (λ (k : ℕ). k * 2 ^ 26) (stepped l).is ∙ sym (pow-add 2 e 26) ∙ ap (λ (k : ℕ). 2 ^ k) (turn e)
    where
      turn : (e : ℕ) → e + 26 ≡ 13 + (13 + e)
      turn e = omega arith

  pub w_large : 2 ^ 23 ≤ w
  w_large = omega (arith, angle_large l, s_pos l)

  pub y_large : 2 ^ 46 ≤ y
  y_large = mul-le-mul w_large w_large

  -- ---- the ranges of the exact sums
  cosine_large : 16777216 * 2 ^ 35 ≤ low 0 w (2 ^ 60)
  cosine_large = low_large 0 w (2 ^ 60) (2 ^ 35) (square_small l) (lit< tt) (lit≤ tt)

  sine_large : 16777216 * (s * 2 ^ 26) ≤ low 1 w (w * 2 ^ 28)
  sine_large = low_large 1 w (w * 2 ^ 28) (s * 2 ^ 26) (square_small l) (omega (arith, s_pos l)) (omega (arith, angle_large l))

  pub cosine_within : Within (low 0 w (2 ^ 60)) (low 0 w (2 ^ 60) + wide 0 w (2 ^ 60)) (numerator_at 0 (num x) (den x) 4) (down 0 (den x) 4)
  cosine_within = enclosed.five 0 (num x) (den x) w (at_most_one l) (den_pos x) (fraction l) (square_small l) (2 ^ 60) cosine_first (lt_of_lt_of_le (lit< tt) cosine_large)

  pub sine_within : Within (low 1 w (w * 2 ^ 28)) (low 1 w (w * 2 ^ 28) + wide 1 w (w * 2 ^ 28)) (numerator_at 1 (num x) (den x) 4) (down 1 (den x) 4)
  sine_within =
      enclosed.five 1 (num x) (den x) w (at_most_one l) (den_pos x) (fraction l) (square_small l) (w * 2 ^ 28) sine_first (lt_of_lt_of_le (omega (arith, s_pos l)) sine_large)

  -- ---- what is found is meant
  pub cosine_found : (n : ℕ) → n ≡ cosine_sum w → (n < 2 ^ 60) × Both 0 x (made n)
  unfolding five
  cosine_found n f = (less, settled.both 0 w (2 ^ 60) 22 x (at_most_one l) (fraction l) (square_small l) cosine_first (2 ^ 35) refl cosine_large tests.0 n f less)
    where
      some : (y : ℕ) → 2 ^ 46 ≤ y → 0 < y * 2 ^ 60 / 2 ^ 64 / 2
      some y h = omega arith

      less : n < 2 ^ 60
      less = subst (λ (k : ℕ). k < 2 ^ 60) (sym f) (sum_less 0 w (2 ^ 60) (square_small l) (some y y_large))

  pub sine_found : (n : ℕ) → n ≡ sine_sum w → (n < 2 ^ 60) × Both 1 x (made n)
  unfolding five
  sine_found n f = (less, settled.both 1 w (w * 2 ^ 28) (13 + e) x (at_most_one l) (fraction l) (square_small l) sine_first (s * 2 ^ 26) s_power sine_large tests.1 n f less)
    where
      some : (y w : ℕ) → 2 ^ 46 ≤ y → 2 ^ 23 ≤ w → 0 < y * (w * 2 ^ 28) / 2 ^ 64 / 6
      some y w h k = let m : 2 ^ 46 * 2 ^ 23 ≤ y * w = mul-le-mul h k in omega arith

      less : n < 2 ^ 60
      less = lt_trans (subst (λ (k : ℕ). k < w * 2 ^ 28) (sym f) (sum_less 1 w (w * 2 ^ 28) (square_small l) (some y w y_large w_large))) (omega (arith, angle_small l))

  -- ---- the sum of five terms rounds to it
  pub cosine_meant : Meant 0 x (cosine x)
  unfolding cosine
  cosine_meant = settled.five_meant (cosine_found (cosine_sum w) refl).1

  pub sine_meant : Meant 1 x (sine x)
  unfolding sine
  sine_meant = settled.five_meant (sine_found (sine_sum w) refl).1

  -- ---- and no other f32 is meant
  pub cosine_only : {c : Float} → Meant 0 x c → c ≡ cosine x
  cosine_only {c} m = meant_unique 0 x c (cosine x) (at_most_one l) m cosine_meant

  pub sine_only : {c : Float} → Meant 1 x c → c ≡ sine x
  sine_only {c} m = meant_unique 1 x c (sine x) (at_most_one l) m sine_meant

  -- ---- so the low-pass's coefficients are one
  pub lowpass_meant : LowpassAt r (coefficients_at r)
  lowpass_meant = record { cos = cosine x; sin = sine x; cos_meant = cosine_meant; sin_meant = sine_meant; made = refl }

  pub lowpass_only : {c : Coefficients} → LowpassAt r c → c ≡ coefficients_at r
  lowpass_only m = m.made ∙ ap₂ coefficients_of (cosine_only m.cos_meant) (sine_only m.sin_meant)
