-- What is shown of the limiter for a block, and of the growth of its gain: the samples given out and the gain stay in range. Assumes nothing.
use Rattle.std.specs.Prelude.{ℕ, zero, suc, ◌≤◌, ◌≡◌, List, Float}
use Rattle.ieee.specs.Units.{One, F32, P, N, Gain, Unitary}
use Rattle.ieee.specs.Bounds.{All}
use Rattle.limiter.specs.Limiter.{scaled_block, block_gain, grown}
use Rattle.limiter.specs.Meters.{block_meters}
use Rattle.limiter.specs.Range.{MetersInRange, Metered}

-- from the gain g, a block of channels of n samples: each sample given out is finite and from -1 to 1, and the next gain is above 0 and at most 1
pub record LimitedInRange (g : Float) (n rate : ℕ) (cs : List (List Float)) : Type 0 where
  pub samples : All (All Unitary) (scaled_block (block_gain g cs) cs)
  pub scaling : Gain (block_gain g cs)
  pub next : Gain (grown n rate (block_gain g cs))
  pub meters : MetersInRange (block_meters g cs)
  pub metered : All (All (Metered (block_meters g cs))) (scaled_block (block_gain g cs) cs)

-- a gain from 0 to 1, both ends with it: what growth asks
pub record Fraction (g : Float) : Type 0 where
  pub f32 : F32 g
  pub plus : N g ≡ 0
  pub most : P g ≤ One

-- the gain after k blocks of n samples, none of which lowered it
abbrev pub grown_times : ℕ → ℕ → ℕ → Float → Float
grown_times zero n rate g = g
grown_times (suc k) n rate g = grown n rate (grown_times k n rate g)
