-- The constants of the port, by their values in units: 0, 1, 0.9, 8, 16; and the whole numbers below 2 ^ 24, which are f32 values below `Top`. Assumes nothing.
use mathlib.Core.Path.{◌≡◌, refl, sym, ap, ◌∙◌, subst}
use Prim.Native.Nat.{ℕ, ◌*◌, ◌^◌, ◌≤◌, ◌<◌}
use native.Mathlib.Nat.{le_of_lt, mul-one, lt_of_le_of_lt, mul-le-mul_right}
use mathlib.Core.Bool.{false}
use lib.IntN.{pos}
use lib.Dec.{T, le→leb, lit<}
use lib.Ieee.{binary32, fits, round, of_int, in_float}
pub use Rattle.ieee.specs.Numbers.{0·0, 1·0, 0·9, 8·0, 16·0}
use Rattle.ieee.proofs.Grid.{OnGrid, rnd, rnd_exact}
use Rattle.ieee.proofs.Value.{One, Top, F32, mag, P, Is, rounded}

-- ---- they are f32 values
pub zero_f32 : F32 0·0
unfolding fits
zero_f32 = record { fine = tt; fit = tt }

pub one_f32 : F32 1·0
unfolding fits
one_f32 = record { fine = tt; fit = tt }

pub ninth_f32 : F32 0·9
unfolding fits
ninth_f32 = record { fine = tt; fit = tt }

pub eight_f32 : F32 8·0
unfolding fits
eight_f32 = record { fine = tt; fit = tt }

pub sixteen_f32 : F32 16·0
unfolding fits
sixteen_f32 = record { fine = tt; fit = tt }

-- ---- in units
pub zero_mag : mag 0·0 ≡ 0
unfolding mag
zero_mag = refl

pub one_P : P 1·0 ≡ One
unfolding mag One
one_P = refl

pub ninth_P : 8388608 * P 0·9 ≡ 7549747 * One
unfolding mag One
ninth_P = refl

pub eight_P : P 8·0 ≡ 8 * One
unfolding mag One
eight_P = refl

pub sixteen_P : P 16·0 ≡ 16 * One
unfolding mag One
sixteen_P = refl

-- ---- whole numbers
pub top_pos : 0 < Top
unfolding Top
top_pos = lit< tt

pub one_less : One < Top
unfolding One Top
one_less = lit< tt

pub whole_grid : (n : ℕ) → n < 16777216 → OnGrid (n * One)
unfolding One
whole_grid n h = record { q = n; j = 149; small = h; is = refl }

most_less : 16777216 * One < Top
unfolding One Top
most_less = lit< tt

pub whole_less : (n : ℕ) → n ≤ 16777216 → n * One < Top
whole_less n h = lt_of_le_of_lt (mul-le-mul_right One h) most_less

-- a whole number as f32 is that number
pub whole_is : (n : ℕ) → n < 16777216 → Is (of_int binary32 (pos n)) false (n * One)
unfolding of_int
whole_is n h =
    let r : rnd (n * One) 1 ≡ n * One = ap (λ (k : ℕ). rnd k 1) (sym (mul-one (n * One))) ∙ rnd_exact (whole_grid n h) 1 (lit< tt) in
    subst (Is (round binary32 false n 1) false) r (rounded false n 1 (n * One) 1 (lit< tt) (lit< tt) refl (subst (λ (k : ℕ). k < Top) (sym r) (whole_less n (le_of_lt h))))

-- and one up to 2 ^ 24 can be cast
pub in_float_is : (n : ℕ) → n ≤ 2 ^ 24 → T (in_float binary32 (pos n))
unfolding in_float
in_float_is n h = le→leb n (2 ^ 24) h
