-- What others may cite of this crate, a line each. Assumes nothing.

-- `Limits`: the counts of a frame's header are within those of the program; its kind is 5
pub use Rattle.framing.proofs.Limits.{Limits, frame_limits, frame_kind}
-- no record is not as laid out where there is none
pub use Rattle.framing.proofs.Unpacking.{none_are}
