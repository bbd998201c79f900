-- What is shown of the limiter's meters: they stay in range, and bound the samples that are given out. Assumes nothing.
use Rattle.std.specs.Prelude.{◌≤◌, ◌≡◌, Float}
use Rattle.std.specs.Float.{binary32}
use Rattle.std.specs.Float.Ieee.{mul}
use Rattle.ieee.specs.Units.{F32, mag, N, Gain}
use Rattle.limiter.specs.Meters.{Meters}

-- finite and at least 0; above 0 and at most 1
pub record MetersInRange (m : Meters) : Type 0 where
  pub peak : F32 m.peak
  pub plus : N m.peak ≡ 0
  pub gain : Gain m.gain

-- at most the block's peak × gain (rounded) in size
abbrev pub Metered : Meters → Float → Type 0
Metered m x = mag x ≤ mag (mul binary32 m.peak m.gain)
