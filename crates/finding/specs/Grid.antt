-- R-13: "Over a grid of panned positions, x and z from -1 to 1 in steps of 1/32 and y from 0 to 1 in steps of 1/16". Each coordinate is an f32 exactly (`steps` of
-- proofs/Theorems), and zero is +0.0. Assumes nothing.
use Rattle.std.specs.Prelude.{ℕ, ◌+◌, ◌*◌, ◌<◌, ◌≡◌, ◌⊎◌, false, pos, Float}
use Rattle.std.specs.Float.{fin, binary32}
use Rattle.std.specs.Float.Ieee.{of_int, sub, div}
use Rattle.vectors.specs.declared.Vec3.{Vec3}
use Rattle.ieee.specs.Units.{One, P, N}
use Rattle.corners.specs.Choice.{0·0}

abbrev 16·0 : Float
16·0 = fin false 1 (pos 4)

abbrev 32·0 : Float
32·0 = fin false 1 (pos 5)

-- how many values x and z have, and y
abbrev pub across_count : ℕ
across_count = 65

abbrev pub up_count : ℕ
up_count = 17

-- value i of x or z, (i - 32) / 32, and value j of y, j / 16
unfoldable pub across_at : ℕ → Float
across_at i = div binary32 (sub binary32 (of_int binary32 (pos i)) 32·0) 32·0

unfoldable pub up_at : ℕ → Float
up_at j = div binary32 (of_int binary32 (pos j)) 16·0

-- in units of 2 ^ -149 these are 1/32 of i - 32, and 1/16 of j, exactly; and the zeros are +0.0
pub record Steps : Type 0 where
  pub across : (i : ℕ) → i < across_count → 32 * P (across_at i) + 32 * One ≡ i * One + 32 * N (across_at i)
  pub up : (j : ℕ) → j < up_count → 16 * P (up_at j) ≡ j * One + 16 * N (up_at j)
  pub middle : across_at 32 ≡ 0·0
  pub floor : up_at 0 ≡ 0·0

-- x number i, y number j, z number k
abbrev pub grid_place : ℕ → ℕ → ℕ → Vec3
grid_place j k i = record { x = across_at i; y = up_at j; z = across_at k }

-- a place of the grid, by its numbers
pub record Spot : Type 0 where
  pub y : ℕ
  pub z : ℕ
  pub x : ℕ

abbrev pub spot_place : Spot → Vec3
spot_place s = grid_place s.y s.z s.x

pub record InGrid (s : Spot) : Type 0 where
  pub y : s.y < up_count
  pub z : s.z < across_count
  pub x : s.x < across_count

-- "the first by y, then z, then x, each rising"
abbrev pub Before : Spot → Spot → Type 0
Before s t = (s.y < t.y) ⊎ ((s.y ≡ t.y) × ((s.z < t.z) ⊎ ((s.z ≡ t.z) × (s.x < t.x))))
