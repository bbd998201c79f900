-- What the limiter met. Document 02, R-2: "The block's answer gains its peak before scaling and the gain that was used. Push and flush hand on the greatest peak and the least
-- gain of the call. A NaN from a handed-in block is passed over; with no other, or with no block ready, they are 0 and 1." Assumes nothing.
use Rattle.std.specs.Prelude.{cond, List, [], ◌∷◌, Float}
use Rattle.std.specs.Float.{nan}
use Rattle.std.specs.Float.Ieee.{is_nan}
use Rattle.ieee.specs.Small.{larger, smaller}
use Rattle.limiter.specs.Limiter.{0·0, 1·0, block_peak, block_gain}
pub use Rattle.limiter.specs.declared.meters.Meters.{Meters}

-- "its peak before scaling and the gain that was used": lowered already, not yet grown
abbrev pub block_meters : Float → List (List Float) → Meters
block_meters g cs = record { peak = block_peak 0·0 cs; gain = block_gain g cs }

-- before any block: a NaN is no gain yet
abbrev pub unmet : Meters
unmet = record { peak = 0·0; gain = nan }

-- "the greatest peak and the least gain", "a NaN is passed over"; of equal ones, as the two zeros are, the earlier block's
abbrev pub meets : Meters → Meters → Meters
meets m b = record { peak = larger m.peak b.peak; gain = smaller m.gain b.gain }

abbrev pub meets_all : Meters → List Meters → Meters
meets_all m [] = m
meets_all m (b ∷ bs) = meets_all (meets m b) bs

-- "with no other .. 1"
unfoldable pub shown : Meters → Meters
unfolding is_nan
shown m = record { peak = m.peak; gain = cond (is_nan m.gain) 1·0 m.gain }

-- what a call answers that gives out these blocks
abbrev pub call_meters : List Meters → Meters
call_meters bs = shown (meets_all unmet bs)

-- "they are 0 and 1": what a call answers that gives out no block
abbrev pub idle_meters : Meters
idle_meters = record { peak = 0·0; gain = 1·0 }
