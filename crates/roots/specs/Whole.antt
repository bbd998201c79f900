-- A reader may skip this file: what the inner functions find, in whole numbers: the digits of an f32's size, and the number nearest to a fourth root. Assumes nothing.
use Rattle.std.specs.Prelude.{ℕ, ◌+◌, ◌-◌, ◌*◌, ◌/◌, ◌^◌, ◌≤◌, ◌<◌, ◌≡◌}

-- n units as m * 2 ^ (e - 23), m having 24 digits
pub record Normal (n m e : ℕ) : Type 0 where
  pub low : 2 ^ 23 ≤ m
  pub high : m < 2 ^ 24
  pub few : e ≤ 276
  pub is : n * 2 ^ 23 ≡ m * 2 ^ e

-- The fourth root of n * 2 ^ 60 is above r - 1 / 2 where n is above this: the whole part of 16 * (r - 1 / 2) ^ 4 / 2 ^ 64.
unfoldable pub top_of : ℕ → ℕ
top_of r = (2 * r - 1) * (2 * r - 1) * ((2 * r - 1) * (2 * r - 1)) / 2 ^ 64

-- the root of n has 24 digits
pub record Spanned (n : ℕ) : Type 0 where
  pub first : top_of 8388608 < n
  pub past : n ≤ top_of 16777217

-- r is the whole number nearest to the root of n: r - 1 / 2 is below the root and r + 1 / 2 is not
pub record NearWhole (n r : ℕ) : Type 0 where
  pub low : 2 ^ 23 ≤ r
  pub high : r ≤ 2 ^ 24
  pub under : top_of r < n
  pub over : n ≤ top_of (r + 1)
