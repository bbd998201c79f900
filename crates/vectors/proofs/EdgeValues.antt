-- What the definitions give at a NaN, at -0 and at an infinite distance, and that the constants are the nearest f32 to their decimals: facts by computation. Assumes nothing.
use mathlib.Core.Path.{◌≡◌, refl}
use mathlib.Core.Bool.{Bool, true, false}
use lib.IntN.{pos}
use lib.Ieee.{Float, nan, inf, fin, binary32, of_bits, round, is_nan, lt, eq, add, mul, div}
use Rattle.std.specs.Prelude.{Some}
use Rattle.ieee.specs.Small.{absolute, larger, clamped}
use Rattle.vectors.specs.Vectors.{0·0f, 1·0f, vec3, zero_vec3, map_to_cube}
use Rattle.vectors.specs.Anchors.{0·5, 0·9f, 0·486, 100·0, used_distance}
use Rattle.vectors.specs.Target.{summed}

-- a NaN has no part in the largest size
nan_passed_over : map_to_cube (vec3 nan 0·5 0·0f) ≡ vec3 nan 1·0f 0·0f
unfolding map_to_cube absolute larger is_nan lt eq mul div of_bits
nan_passed_over = refl

nan_alone : map_to_cube (vec3 nan 0·0f 0·0f) ≡ zero_vec3
unfolding map_to_cube absolute larger is_nan lt eq of_bits
nan_alone = refl

-- the clamp keeps a NaN and -0
nan_kept : (d : Float) → summed nan d ≡ nan
unfolding clamped add lt of_bits
nan_kept d = refl

minus_zero_kept : summed (fin true 0 (pos 0)) (fin true 0 (pos 0)) ≡ fin true 0 (pos 0)
unfolding clamped add lt of_bits
minus_zero_kept = refl

infinite_distance : (s : Bool) → used_distance (Some (inf s)) ≡ Some 100·0
infinite_distance s = refl

screen_sizes : (0·9f ≡ round binary32 false 9 10) × (0·486 ≡ round binary32 false 486 1000)
unfolding of_bits round
screen_sizes = (refl, refl)
