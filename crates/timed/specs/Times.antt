-- When a slot is, and where an element finds its infos: what `Timing` and `Reach` hold. Assumes nothing.
use Rattle.std.specs.Prelude.{ℕ, ◌+◌, ◌*◌, ◌<◌, ◌≤◌}
use Rattle.clock.specs.declared.StreamSample.{StreamSample}
use Rattle.timed.specs.InfoSizes.{most_blocks, all_infos}

-- the stream positions of a slot's start and of the last applied update
pub record Times : Type 0 where
  pub start : StreamSample
  pub payload : StreamSample

-- "Stream positions lie from 0 to 2^40"
pub record InTime (w : Times) : Type 0 where
  pub start : w.start.0 ≤ 1099511627776
  pub payload : w.payload.0 ≤ 1099511627776

-- the infos of bed i from `beds` + 8 i on, those of dynamic object d from `first` + 8 d on, and how many there are of each
pub record InfoPlaces : Type 0 where
  pub beds : ℕ
  pub channels : ℕ
  pub first : ℕ
  pub count : ℕ

-- every info that is reached is one of the 512
pub record Reaches (r : InfoPlaces) : Type 0 where
  pub few : r.channels ≤ 18
  pub some : r.count ≤ 16
  pub beds : (i : ℕ) → i < r.channels → r.beds + most_blocks * i + most_blocks ≤ all_infos
  pub objects : (d : ℕ) → d < r.count → r.first + most_blocks * d + most_blocks ≤ all_infos
  pub near : r.beds ≤ 4096
  pub low : r.first ≤ 4096
