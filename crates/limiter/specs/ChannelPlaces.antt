-- A reader may skip this file: the block as the code has it, twelve channels of 64 places each, as floats and as bytes of the state; the samples given out, channel after
-- channel at a stride of their own; and what the limiter's code asks and gives. `here` says of each channel whether the hall has it: one that it lacks has no samples, its row of
-- places is not read and no byte of it is written. Assumes nothing.
use Rattle.std.specs.Prelude.{ℕ, ◌+◌, ◌-◌, ◌*◌, ◌≤◌, ◌≡◌, Bool, cond, List, [], ◌∷◌, ◌++◌, length, take, drop, Float}
use Rattle.formats.specs.Areas.{row_count, row_places, row_bytes, places_bytes}
pub use Rattle.words.specs.Words.{floats_at, with_floats}
use Rattle.limiter.specs.Limiter.{block_gain, scaled_block, grown}
use Rattle.limiter.specs.Meters.{block_meters}
use Rattle.limiter.specs.declared.Limited.{Limited}

-- ---- as floats: a row of places for each channel, of which the first n are used where the channel is there

unfoldable pub channels : List Bool → ℕ → List Float → List (List Float)
channels [] n xs = []
channels (h ∷ here) n xs = cond h (take n xs) [] ∷ channels here n (drop row_places xs)

-- the block with the first places of each channel written anew; an empty channel leaves its row
unfoldable pub overlaid : List (List Float) → List Float → List Float
overlaid [] xs = xs
overlaid (c ∷ cs) xs = c ++ (take (row_places - length c) (drop (length c) xs) ++ overlaid cs (drop row_places xs))

-- ---- as bytes

-- channels of n samples, a row apart
unfoldable pub channels_at : List Bool → ℕ → List ℕ → ℕ → List (List Float)
channels_at [] n s at = []
channels_at (h ∷ here) n s at = cond h (floats_at s at n) [] ∷ channels_at here n s (at + row_bytes)

-- out with these channels from `at` on, `step` bytes apart
unfoldable pub with_channels : List (List Float) → ℕ → ℕ → List ℕ → List ℕ
with_channels [] step at out = out
with_channels (c ∷ cs) step at out = with_channels cs step (at + step) (with_floats out at c)

-- ---- the contract of `apply_output_limiter_block`

-- what it asks of its arguments
pub record Room (places : List ℕ) (n rate : ℕ) (out : List ℕ) (step to : ℕ) : Type 0 where
  pub block : length places ≡ places_bytes
  pub rates : rate ≤ 16777216
  pub channel : to + 4 * n ≤ step
  pub output : row_count * step ≤ length out

-- what it gives, for a block of n samples at a rate: from the gain g, the places and the output to the limiter after the block, the block's meters and the output
pub record Given (g : Float) (here : List Bool) (n rate : ℕ) (places : List ℕ) (step at : ℕ) (out : List ℕ) (r : Limited) (out' : List ℕ) : Type 0 where
  pub gain : r.limiter.gain ≡ grown n rate (block_gain g (channels_at here n places 0))
  pub meters : r.meters ≡ block_meters g (channels_at here n places 0)
  pub samples : out' ≡ with_channels (scaled_block (block_gain g (channels_at here n places 0)) (channels_at here n places 0)) step at out
