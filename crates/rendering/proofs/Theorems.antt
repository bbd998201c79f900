-- What others may cite of this crate, a line each. Assumes nothing.

-- before a chunk: no update is sent, or those of one list after another, and no slot starts or one that changes nothing
pub use Rattle.rendering.proofs.Begins.{past, none_applied, both_applied, slot_rests, slot_changes_nothing}
-- a slot after the updates, and that it may start in a renderer in range
pub use Rattle.rendering.proofs.Begins.{can_start, slotted_after, ranged_starts}
-- a block given out of rows is that of the places that have them; no samples change nothing
pub use Rattle.rendering.proofs.Given.{gave_rows, none_behind}
-- what holds of all holds of the first, and of those behind
pub use Rattle.rendering.proofs.RowsPeak.{all_take, all_drop}
