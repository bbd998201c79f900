-- The output limiter, for any floats. Document 01, item 6: "A block of 64 with peak p and gain g: if p × g > 1, g becomes 0.9 / p; scale; then g grows by length / rate, at
-- most 1. Flush treats the remainder as one shorter block." Assumes nothing.
use Rattle.std.specs.Prelude.{ℕ, cond, List, [], ◌∷◌, pos, Float}
use Rattle.std.specs.Float.{binary32}
use Rattle.std.specs.Float.Ieee.{add, mul, div, lt, of_int}
use Rattle.ieee.specs.Small.{absolute, larger}
pub use Rattle.ieee.specs.Numbers.{0·0, 1·0, 0·9}

-- the largest size of a sample, at least m; a NaN is passed over
abbrev pub peak_from : Float → List Float → Float
peak_from m [] = m
peak_from m (x ∷ xs) = peak_from (larger m (absolute x)) xs

abbrev pub peak : List Float → Float
peak xs = peak_from 0·0 xs

-- "if p × g > 1, g becomes 0.9 / p"
unfoldable pub lowered : Float → Float → Float
unfolding lt mul div
lowered p g = cond (lt 1·0 (mul binary32 p g)) (div binary32 0·9 p) g

-- "scale"
abbrev pub scaled : Float → List Float → List Float
scaled g [] = []
scaled g (x ∷ xs) = mul binary32 x g ∷ scaled g xs

-- "length / rate"
abbrev pub decay : ℕ → ℕ → Float
decay n rate = div binary32 (of_int binary32 (pos n)) (of_int binary32 (pos rate))

-- "then g grows by length / rate, at most 1"
unfoldable pub grown : ℕ → ℕ → Float → Float
unfolding lt add div of_int
grown n rate g = let h = add binary32 g (decay n rate) in cond (lt 1·0 h) 1·0 h

-- ---- a block of channels

unfoldable pub block_peak : Float → List (List Float) → Float
block_peak m [] = m
block_peak m (c ∷ cs) = block_peak (larger m (peak c)) cs

unfoldable pub scaled_block : Float → List (List Float) → List (List Float)
scaled_block g [] = []
scaled_block g (c ∷ cs) = scaled g c ∷ scaled_block g cs

-- the gain that a block is scaled by
abbrev pub block_gain : Float → List (List Float) → Float
block_gain g cs = lowered (block_peak 0·0 cs) g
