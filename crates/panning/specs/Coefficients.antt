-- What is said of the coefficients that are mixed: what their squares add up to. Assumes nothing.
use Rattle.std.specs.Prelude.{ℕ, ◌+◌, ◌*◌, Float}
use mathlib.Core.List.{List, [], ◌∷◌, Memᴰ}
use Rattle.ieee.specs.Units.{One, mag, P}
use Rattle.ieee.specs.Bounds.{DifferBy}
pub use Rattle.ieee.specs.Numbers.{8·0}
unfoldable pub use Rattle.corners.specs.Table.{between}
use Rattle.panning.specs.Terms.{Term, on_channel}

-- the sum of the exact squares of a channel's coefficients, and of those of the channels l, in units of 2 ^ -298
unfoldable pub square_sum : List Float → ℕ
square_sum [] = 0
square_sum (x ∷ xs) = mag x * mag x + square_sum xs

unfoldable pub squares : List ℕ → List Term → ℕ
unfolding square_sum
squares [] ts = 0
squares (c ∷ l) ts = square_sum (on_channel c ts) + squares l ts

-- |sum - g| is at most g * 2 ^ -20 + 2 ^ -140, both sides taken 2 ^ 20 times. In units of 2 ^ -298 g is P g * One, and 2 ^ -140 is 512 * One.
abbrev pub AddsUp : ℕ → Float → Type 0
AddsUp sum g = DifferBy (1048576 * sum) (1048576 * (P g * One)) (P g * One + 1048576 * (512 * One))

abbrev pub Each : (Term → Type 0) → List Term → Type 0
Each Q ts = (t : Term) → Memᴰ t ts → Q t
