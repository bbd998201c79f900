-- A sample as a whole number of 24 bits, and back. Document 02, R-9: "Convert each sample to the nearest whole number to sample × 8,388,608, ties to even, and then at most
-- 8,388,607; write three bytes, two's complement". Assumes nothing.
use Rattle.std.specs.Prelude.{ℕ, ◌-◌, ◌%◌, ◌^◌, false, cond, min, ltb, ℤ, pos, neg_ℤ, Float}
use Rattle.std.specs.Float.{fin, binary32}
use Rattle.std.specs.Float.Ieee.{div, of_int}
use Rattle.std.specs.Float.Ieee.Nearest.{closest}
use Rattle.ieee.specs.Units.{sign, mag}

-- 2 ^ -23 in units of 2 ^ -149, which `mag` counts: a sample × 8,388,608 is mag x / Step in size. Shut, since omega refuses a number of more than 38 digits.
unfoldable pub Step : ℕ
Step = 2 ^ 126

-- "the nearest whole number to sample × 8,388,608, ties to even": its size
abbrev pub nearest_steps : Float → ℕ
nearest_steps x = closest (mag x) Step

-- "and then at most 8,388,607": a whole number is its size with the sample's sign. "two's complement" in 24 bits, so that either zero is 0
abbrev pub code_24 : Float → ℕ
code_24 x = cond (sign x) ((16777216 - nearest_steps x) % 16777216) (min (nearest_steps x) 8388607)

-- the whole number whose 24 bits are n
abbrev pub whole_of : ℕ → ℤ
whole_of n = cond (ltb n 8388608) (pos n) (neg_ℤ (pos (16777216 - n)))

abbrev pub 8388608·0 : Float
8388608·0 = fin false 1 (pos 23)

-- "Reading such bytes gives f32 values whole number / 8,388,608, exactly"
abbrev pub sample_24 : ℕ → Float
sample_24 n = div binary32 (of_int binary32 (whole_of n)) 8388608·0
