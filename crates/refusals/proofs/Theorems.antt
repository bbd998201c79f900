-- What others may cite of this crate, a line each. Assumes nothing.

-- a refusal is found
pub use Rattle.refusals.proofs.Cleared.{told, not_clear, is_none_is}
-- the small part of a block, with the block's infos, places and hall, is what the block decodes to
pub use Rattle.refusals.proofs.Loaded.{loaded}
-- 1 to 8: the first test that does not hold is what is found; where all hold nothing is
pub use Rattle.refusals.proofs.LowestFirst.{tests, refuses, refuses_none}
-- 9 to 14: the parts in their order are what the rules find
pub use Rattle.refusals.proofs.LaterInOrder.{Looked, later_is}
-- between two offsets with updates nothing new can stop
pub use Rattle.refusals.proofs.Walks.{Walking, walk_step, walk_skips, walk_ends}
