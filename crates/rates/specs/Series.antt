-- A reader may skip this file: the low-pass's angle and five terms of the series of its cosine and sine, in whole numbers. The angle is w steps of 2 ^ -32, a term t steps
-- of 2 ^ -60. That these are the angle, the cosine and the sine that document 01 means is shown in the crate angles. Assumes nothing.
use Rattle.std.specs.Prelude.{ℕ, ◌+◌, ◌-◌, ◌*◌, ◌/◌, ◌^◌, cond, ltb}
use Rattle.std.specs.Float.Ieee.Nearest.{closest}

-- TAU × 120 / rate keeps 24 digits; the last counts so many steps
abbrev pub step_of : ℕ → ℕ
step_of rate = cond (ltb rate 24128) (cond (ltb rate 12064) 32 16) (cond (ltb rate 48255) 8 (cond (ltb rate 96510) 4 2))

-- the multiple of s that is nearest to TAU × 120 / rate; TAU × 120 is 12,353,245 / 2 ^ 14 in f32
abbrev pub nearest_angle : (rate s : ℕ) → ℕ
nearest_angle rate s = closest (12353245 * 2 ^ 18) (rate * s) * s

-- `w0_is` of the crate angles: this is w0
unfoldable pub angle_of : ℕ → ℕ
angle_of rate = nearest_angle rate (step_of rate)

-- the term after t, cut: times the square y of the angle, which counts steps of 2 ^ -64, by n
abbrev pub next_term : (y t n : ℕ) → ℕ
next_term y t n = y * t / 2 ^ 64 / n

-- the sum of a series from the term t on, the signs taking turns
unfoldable pub five : (y t n₁ n₂ n₃ n₄ : ℕ) → ℕ
five y t n₁ n₂ n₃ n₄ =
    let t₁ = next_term y t n₁ in
    let t₂ = next_term y t₁ n₂ in
    let t₃ = next_term y t₂ n₃ in
    t - t₁ + t₂ - t₃ + next_term y t₃ n₄

-- the cosine and the sine of w steps
abbrev pub cosine_sum : ℕ → ℕ
cosine_sum w = five (w * w) (2 ^ 60) 2 12 30 56

abbrev pub sine_sum : ℕ → ℕ
sine_sum w = five (w * w) (w * 2 ^ 28) 6 20 42 72
