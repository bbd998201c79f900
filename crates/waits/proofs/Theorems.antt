-- What others may cite of this crate, a line each. Assumes nothing.

-- after an accepted frame each update that waited falls at its own sample or still waits, and the own ones that wait come behind; none is lost, doubled or reordered
pub use Rattle.waits.proofs.Ahead.{kept_or_fallen}
-- the area is within its ranges then, at the stream's new position; and records that refusals 5 and 6 let pass stay such records
pub use Rattle.waits.proofs.Ahead.{ahead_settle, kept_settle}
-- an update that comes for sample 5 in a frame of four samples, waits, and falls at offset 1 of the next
pub use Rattle.waits.proofs.Examples.{then_waits, then_falls, then_gone}
-- where none waits and none comes: no own update without an offset in the frame comes, refusal 25 does not arise, and the area stays to the byte
pub use Rattle.waits.proofs.Nothing.{none_comes, next_none, fits_none, settled_none}
-- in a frame of no samples none that waits falls, and each own one of kind 9 waits
pub use Rattle.waits.proofs.Nothing.{none_falls, all_come}
-- what an area within its ranges says: of its updates, their positions and records
pub use Rattle.waits.proofs.Ahead.{valid_updates, valid_far, valid_position, valid_few, valid_records, valid_fits}
-- records that stand elsewhere are the same records, and updates too
pub use Rattle.waits.proofs.Alike.{Like, in_range_like, fits_like}
pub use Rattle.waits.proofs.Moved.{Region, update_moved, update_end_moved}
