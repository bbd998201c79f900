-- What others may cite of this crate, a line each. Assumes nothing.

-- from a gain in (0, 1] and finite samples: the samples given out are in [-1, 1] and no larger than the meters say, the next gain and the meters in range
pub use Rattle.limiter.proofs.InRange.{limiter_in_range}
-- R-8: from a gain from 0 to 1, and whatever blocks came before, floor(rate / 64) + 2 quiet blocks of 64 in a row end with gain 1; no block takes the gain out of 0 to 1
pub use Rattle.limiter.proofs.Row.{returns, returns_after, fraction, after_more, blocks_fraction, block_level}
-- blocks whose peaks are at most 1 are quiet; a silent block's peak is +0.0
pub use Rattle.limiter.proofs.LowPeaks.{low_peaks_quiet, Zero, silent_peak}
-- growths by 64 / rate, of which 64 times the number is at least the rate and 65 more
pub use Rattle.limiter.proofs.Return.{full_after}
-- k blocks that do not lower it bring the gain to 1, or up by k times the decay less k roundings
pub use Rattle.limiter.proofs.Growth.{Decay, decay_is, HalfUlp, Grows, grows}
-- one channel more of a block, empty where it is not there, their number, and one channel more that is written
pub use Rattle.limiter.proofs.Blocks.{channel, channels_more, length_channels, written_more}
-- samples that are scaled into a part that is lent are so in the whole
pub use Rattle.limiter.proofs.Blocks.{store_part}
-- scaling keeps the number of samples; by 1 it keeps each
pub use Rattle.limiter.proofs.Scaled.{length_scaled, scaled_one}
-- the meters of a call: blocks are met one behind the other, none are 0 and 1, and blocks in range give meters in range
pub use Rattle.limiter.proofs.CallMeters.{meets_append, none_met, one_gain, idle_in_range, call_in_range}
