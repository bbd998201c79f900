-- What others may cite of this crate, a line each. Assumes nothing.

-- R-1: an element that would be kept starts afresh where the number of dynamic objects differs
pub use Rattle.updates.proofs.Lifted.{lifted}
-- R-11: another number of dynamic objects ends all holds, the same number keeps them
pub use Rattle.updates.proofs.HoldsEnd.{holds_end, holds_stay, unmarked_applied}
-- beside a hold an update does all else as without it
pub use Rattle.updates.proofs.UpdateAlone.{update_alone}
-- an applied update keeps the ranges of the state
pub use Rattle.updates.proofs.UpdateInRange.{applied_within}
-- it leaves each element at least as many flags as it has dynamic objects
pub use Rattle.updates.proofs.Elements.{flags_enough}
-- what it makes of an element, from what that element was
pub use Rattle.updates.proofs.Elements.{element_at}
-- the format of an info reads back what an update writes of a record's words
pub use Rattle.updates.proofs.InfoWritten.{info_written, info_words}
-- what a written info, or those of an object or of an element, leave of the others
pub use Rattle.updates.proofs.StoredInfos.{Stored, one, twice, three, head_stored, place_stored, places_stored, info_stored, object_stored_is, objects_stored_is}
