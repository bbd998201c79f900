-- What the code computes: 8,388,608 + size × 8,388,608 in f32 is 8,388,608 and the nearest whole number to size × 8,388,608, in whose binary digits an f32 of this size ends.
-- Assumes nothing.
use mathlib.Core.Path.{◌≡◌, refl, sym, ap, ap₂, subst, ◌∙◌}
use mathlib.Core.Logic.{inl, inr}
use mathlib.Core.Bool.{Bool, true, false, not, cond}
use Prim.Native.Nat.{ℕ, min, ◌+◌, ◌-◌, ◌*◌, ◌%◌, ◌^◌, ◌≤◌, ◌<◌}
use native.Mathlib.Nat.{le_of_eq, le_trans, lt_of_le_of_lt, mul_assoc, mul_comm, mul-le-mul_right, eq-or-lt_of_le, mod-lt, min-le_right}
use native.Mathlib.Omega.{arith}
use lib.Dec.{T, lit<, lit≤}
use lib.Ieee.{Float, binary32, fits, is_nan, to_bits, of_bits, add, mul}
use lib.Ieee.Bits.{to_bits-of_bits, of_bits-fits, nan_bits_is}
use lib.Ieee.Nearest.{closest}
use Rattle.ieee.specs.Units.{One, sign, mag, P}
use Rattle.ieee.proofs.Theorems.{Plus, Gives, kept, exactly, add_plus, mul_plus, grid_up, one_is, whole_grid, whole_less, of_size, Is, shape, one_pos}
use Rattle.ieee.proofs.Patterns.{pattern_kept, pattern_f32, pattern_plus}
use Rattle.ieee.proofs.Theorems.{bits_bounded, one_f32, one_P, no_sign, read_size, to_bits_is}
use Rattle.ieee.specs.Bounds.{Bounded}
use Rattle.ieee.specs.Nearest.{OnGrid}
use Rattle.ieee.specs.FloatBits.{units_of}
use Rattle.ieee.specs.Numbers.{1·0}
use Rattle.words.proofs.Nan.{not_above}
use Rattle.pcm24.specs.Codes.{Step, 8388608·0, nearest_steps, code_24}
use Rattle.pcm24.proofs.Steps.{steps_of_one, step_pos, closest_moved, closest_whole, few_steps}

abbrev scale : Float
scale = of_bits binary32 0x4b00_0000

pub scale_is : of_bits binary32 0x4b00_0000 ≡ 8388608·0
unfolding of_bits
scale_is = refl

pub scale_plus : Plus (of_bits binary32 0x4b00_0000) (8388608 * One)
unfolding mag One fits of_bits
scale_plus = record { f32 = record { fine = tt; fit = tt }; up = refl; down = refl }

scaled : (m s : ℕ) → (m * 8388608 + 8388608 * (8388608 * s)) * s ≡ (m + 8388608 * s) * (8388608 * s) * 1
scaled m s = omega arith

-- the sum, in units: 8,388,608 and the nearest
sum_gives : (m : ℕ) → m ≤ One → Gives (m * 8388608 + 8388608 * One) 1 ((8388608 + closest m Step) * One)
sum_gives m h = elim (eq-or-lt_of_le h) [
  | inl e ↦
      let c : closest m Step ≡ 8388608 = ap (λ (n : ℕ). closest n Step) (e ∙ steps_of_one) ∙ closest_whole 8388608 Step step_pos in
      let n : m * 8388608 + 8388608 * One ≡ 16777216 * One * 1 = omega (arith, e) in
      let k : (8388608 + closest m Step) * One ≡ 16777216 * One = ap (λ (x : ℕ). (8388608 + x) * One) c in
      rw (n, k) (exactly (doubled) (whole_less 16777216 (lit≤ tt)) 1 (lit< tt))
  | inr l ↦
      let e : (m * 8388608 + 8388608 * One) * Step ≡ (m + 8388608 * Step) * 2 ^ 149 * 1 = rw (one_is, steps_of_one) (scaled m Step) in
      let g = kept (m * 8388608 + 8388608 * One) 1 (m + 8388608 * Step) Step 149 (lit< tt) step_pos e (omega arith) (omega (arith, l, steps_of_one)) (lit≤ tt) in
      subst (λ (k : ℕ). Gives (m * 8388608 + 8388608 * One) 1 k) (ap₂ (λ (a b : ℕ). a * b) (closest_moved m Step step_pos) one_is) g
]
  where
    doubled : OnGrid (16777216 * One)
    doubled = subst OnGrid (twice One) (grid_up (8388608 * One) 1 (whole_grid 8388608 (lit< tt)))
      where
        twice : (x : ℕ) → 8388608 * x * 2 ≡ 16777216 * x
        twice x = omega arith

-- ---- the patterns from 0 to 1.0
number : (w : ℕ) → w % 2147483648 ≤ 2139095040 → T (not (is_nan (of_bits binary32 w)))
number w h = subst (λ (b : Bool). T (not b)) (nan_bits_is binary32 w) (not_above w h)

pub one_word : to_bits binary32 1·0 % 2147483648 ≡ 1065353216
unfolding to_bits
one_word = refl

module _ (w : ℕ) (less : w < 2 ^ 32) (h : w % 2147483648 ≤ 1065353216) where
  word_kept : to_bits binary32 (of_bits binary32 w) ≡ w
  word_kept = to_bits-of_bits binary32 w less (number w (omega arith))

  pub unit_size : Bounded One (of_bits binary32 w)
  unit_size =
      subst (λ (m : ℕ). Bounded m (of_bits binary32 w)) one_P
      ((bits_bounded 1·0 (of_bits binary32 w) one_f32 (of_bits-fits binary32 w) (number w (omega arith))).0 (omega (arith, h, one_word, word_kept)))

  -- the size is that of the bits without the sign
  units : mag (of_bits binary32 w) ≡ units_of (w % 2147483648)
  units = (read_size (of_bits binary32 w) unit_size.f32).units ∙ ap units_of (sym (no_sign (of_bits binary32 w) unit_size.f32) ∙ ap (λ (n : ℕ). n % 2147483648) word_kept)

  sign_cases : (s : Bool) → sign (of_bits binary32 w) ≡ s → w ≡ cond s 2147483648 0 + w % 2147483648
  sign_cases s e =
      let q = to_bits_is (of_bits binary32 w) unit_size.f32.fine in
      let p = no_sign (of_bits binary32 w) unit_size.f32 in
      let k = word_kept in
      let r : to_bits binary32 (of_bits binary32 w) ≡ cond s 2147483648 0 + to_bits binary32 (of_bits binary32 w) % 2147483648 = q ∙ ap₂ (λ (t : Bool) (n : ℕ). cond t 2147483648 0 + n) e (sym p) in
      rw k at r

  pub plus_sign : w < 2147483648 → sign (of_bits binary32 w) ≡ false
  plus_sign l = go (sign (of_bits binary32 w)) refl
    where
      go : (s : Bool) → sign (of_bits binary32 w) ≡ s → sign (of_bits binary32 w) ≡ false
      go false e = e
      go true e = absurd (let q = sign_cases true e in omega arith)

  pub minus_sign : 2147483648 ≤ w → sign (of_bits binary32 w) ≡ true
  minus_sign l = go (sign (of_bits binary32 w)) refl
    where
      go : (s : Bool) → sign (of_bits binary32 w) ≡ s → sign (of_bits binary32 w) ≡ true
      go true e = e
      go false e = absurd (let q = sign_cases false e in omega arith)

pub same_size : (w : ℕ) → w < 2 ^ 32 → w % 2147483648 ≤ 1065353216 → mag (of_bits binary32 (w % 2147483648)) ≡ mag (of_bits binary32 w)
same_size w less h =
    let twice : w % 2147483648 % 2147483648 ≡ w % 2147483648 = omega arith in
    units (w % 2147483648) (omega arith) (omega arith) ∙ ap units_of twice ∙ sym (units w less h)

-- ---- the sum
module _ (b : ℕ) (h : b ≤ 1065353216) where
  abbrev size : Float
  size = of_bits binary32 b

  less : b < 2 ^ 32
  less = omega arith

  below : b < 2139095040
  below = omega arith

  most : mag size ≤ One
  most = (unit_size b less (omega arith)).most

  plain : Plus size (mag size)
  plain = record { f32 = pattern_f32 b below; up = rw (pattern_plus b below); down = rw (pattern_plus b below) }

  moved : Plus (mul binary32 size scale) (mag size * 8388608)
  moved =
      mul_plus plain scale_plus
      (rw (sym (mul_assoc (mag size) 8388608 One))
      (exactly (grid_up (mag size) 23 (shape size plain.f32).grid) (lt_of_le_of_lt (le_trans (mul-le-mul_right 8388608 most) (le_of_eq (mul_comm One 8388608))) (whole_less 8388608 (lit≤ tt))) One one_pos))

  abbrev sum : Float
  sum = add binary32 (mul binary32 size scale) scale

  sum_plus : Plus sum ((8388608 + closest (mag size) Step) * One)
  sum_plus = add_plus moved scale_plus (sum_gives (mag size) most)

  few : closest (mag size) Step ≤ 8388608
  few = few_steps (mag size) most

  is : Is sum false ((8388608 + closest (mag size) Step) * 2 ^ 149)
  is = go (sign sum) refl sum_plus.up (omega (arith, one_pos))
    where
      go : (s : Bool) → sign sum ≡ s → P sum ≡ (8388608 + closest (mag size) Step) * One → 0 < (8388608 + closest (mag size) Step) * One → Is sum false ((8388608 + closest (mag size) Step) * 2 ^ 149)
      go false e u l = record { f32 = sum_plus.f32; signed = e; size = rw one_is (rw e at u) }
      go true e u l = absurd (let z = rw e at u in omega arith)

  place : 149 * 8388608 + (8388608 + closest (mag size) Step) ≡ 1258291200 + closest (mag size) Step
  place = omega arith

  word_is : sum ≡ of_bits binary32 (1258291200 + closest (mag size) Step)
  word_is = of_size sum (8388608 + closest (mag size) Step) 149 is (omega arith) (omega (arith, few)) ∙ ap (of_bits binary32) place

  pub sum_bits : to_bits binary32 sum ≡ 1258291200 + closest (mag size) Step
  sum_bits = ap (to_bits binary32) word_is ∙ pattern_kept (1258291200 + closest (mag size) Step) (omega (arith, few))

  pub sum_number : T (not (is_nan sum))
  sum_number = subst (λ (x : Float). T (not (is_nan x))) (sym word_is) (number (1258291200 + closest (mag size) Step) (omega (arith, few)))

  pub sum_few : closest (mag size) Step ≤ 8388608
  sum_few = few

-- ---- the code of a word
module _ (w : ℕ) (less : w < 2 ^ 32) (h : w % 2147483648 ≤ 1065353216) where
  difference : to_bits binary32 (add binary32 (mul binary32 (of_bits binary32 (w % 2147483648)) scale) scale) - 1258291200 ≡ nearest_steps (of_bits binary32 w)
  difference =
      let e = sum_bits (w % 2147483648) h in
      let d : to_bits binary32 (add binary32 (mul binary32 (of_bits binary32 (w % 2147483648)) scale) scale) - 1258291200 ≡ closest (mag (of_bits binary32 (w % 2147483648))) Step = omega (arith, e) in
      d ∙ ap (λ (m : ℕ). closest m Step) (same_size w less h)

  pub code_plus : w < 2147483648 → min (to_bits binary32 (add binary32 (mul binary32 (of_bits binary32 (w % 2147483648)) scale) scale) - 1258291200) 8388607 ≡ code_24 (of_bits binary32 w)
  code_plus l =
      ap (λ (n : ℕ). min n 8388607) difference
      ∙ sym (ap (λ (s : Bool). cond s ((16777216 - nearest_steps (of_bits binary32 w)) % 16777216) (min (nearest_steps (of_bits binary32 w)) 8388607)) (plus_sign w less h l))

  pub code_minus : 2147483648 ≤ w → (16777216 - (to_bits binary32 (add binary32 (mul binary32 (of_bits binary32 (w % 2147483648)) scale) scale) - 1258291200)) % 16777216 ≡ code_24 (of_bits binary32 w)
  code_minus l =
      ap (λ (n : ℕ). (16777216 - n) % 16777216) difference
      ∙ sym (ap (λ (s : Bool). cond s ((16777216 - nearest_steps (of_bits binary32 w)) % 16777216) (min (nearest_steps (of_bits binary32 w)) 8388607)) (minus_sign w less h l))

-- a code has 24 bits
pub code_small : (x : Float) → code_24 x < 16777216
code_small x = go (sign x)
  where
    go : (s : Bool) → cond s ((16777216 - nearest_steps x) % 16777216) (min (nearest_steps x) 8388607) < 16777216
    go true = mod-lt (16777216 - nearest_steps x) (lit< tt)
    go false = lt_of_le_of_lt (min-le_right (nearest_steps x) 8388607) (lit< tt)
