-- A reader may skip this file: that the terms taken suffice, as a test. What is cut off makes each term after the first less than 2 steps too small. So the exact sums of four
-- and of five terms lie from t - t₁ + t₂ - t₃ - 4 to that and t₄ + 8 more (`four`, `five` of angles/proofs/Enclosed), and they round alike where this range lies inside a
-- cell: between two neighbouring multiples of g, half the last digit of an f32. Assumes nothing.
use Rattle.std.specs.Prelude.{ℕ, ◌+◌, ◌-◌, ◌*◌, ◌%◌, ◌^◌, Bool, ◌&&◌, ltb}
use Rattle.rates.specs.Series.{step_of, nearest_angle, next_term}

-- what begins at m in a cell of the length g, and is d long, neither begins nor ends at an end of it
abbrev pub inside : (m d g : ℕ) → Bool
inside m d g = ltb 0 m && ltb (m + d) g

-- the first terms of a series, their signs taking turns
abbrev pub sums_alike : (t t₁ t₂ t₃ t₄ g : ℕ) → Bool
sums_alike t t₁ t₂ t₃ t₄ g = inside ((t + t₂ - (t₁ + t₃ + 4)) % g) (t₄ + 8) g

abbrev pub round_alike : (y t n₁ n₂ n₃ n₄ g : ℕ) → Bool
round_alike y t n₁ n₂ n₃ n₄ g =
    let t₁ = next_term y t n₁ in
    let t₂ = next_term y t₁ n₂ in
    let t₃ = next_term y t₂ n₃ in
    sums_alike t t₁ t₂ t₃ (next_term y t₃ n₄) g

-- at a rate: the cosine, which is at least 1/2, so that its last digit is 2 ^ 36 steps; and the sine, whose last digit is the angle's, or half of it
abbrev pub suffice : ℕ → Bool
suffice rate =
    let s = step_of rate in
    let w = nearest_angle rate s in
    let y = w * w in
    round_alike y (2 ^ 60) 2 12 30 56 (2 ^ 35) && round_alike y (w * 2 ^ 28) 6 20 42 72 (s * 2 ^ 26)
