-- A reader may skip this file: the nearest root, as it can be computed, digit by digit. Assumes nothing.
use Rattle.std.specs.Prelude.{ℕ, zero, suc, ◌+◌, ◌-◌, ◌*◌, ◌^◌, false, cond, leb, eqb, Float}
use Rattle.std.specs.Float.{binary32}
use Rattle.std.specs.Float.Ieee.{size, round}

-- w with j more binary digits, each set where the p-th power stays within n
unfoldable pub digits : ℕ → ℕ → ℕ → ℕ → ℕ
digits p n zero w = w
digits p n (suc j) w = digits p n j (cond (leb ((w + 2 ^ j) ^ p) n) (w + 2 ^ j) w)

-- the whole part of the p-th root of n: the largest w with w ^ p ≤ n
unfoldable pub floor_root : ℕ → ℕ → ℕ
unfolding digits
floor_root p n = digits p n (size n) 0

-- The p-th root of n units, for n > 0 and p ≥ 2, rounded once. In units it is w, or lies between w and w + 1 and then rounds as w + 1 / 2 does:
-- w has 75 digits or more, so no number half way between two neighbouring f32 lies inside.
unfoldable pub root_units : ℕ → ℕ → Float
unfolding floor_root
root_units p n =
    let power = n * 2 ^ (149 * (p - 1)) in
    let w = floor_root p power in
    round binary32 false (2 * w + cond (eqb (w ^ p) power) 0 1) (2 ^ 150)
