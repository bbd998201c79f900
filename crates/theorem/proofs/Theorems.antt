-- What others may cite of this crate, a line each. Assumes nothing.

-- demand 3, each layout is made in each block, with each table that keeps the rules, and with the built-in one as without a table; a call leaves a valid block; the six players, the
-- meters
pub use Rattle.theorem.proofs.Demand3.{demand3, makes_accepted, tables_accepted, built_in_alike, layout_made, table_made, demand3_in, demand3_from, keeps}
pub use Rattle.theorem.proofs.Players.{not_silent, not_all_refused, all_mixed, every_block, ready_counts, flush_gives}
pub use Rattle.theorem.proofs.Heard.{meters_show}
-- R-11: what is held stays; what changes nothing leaves every byte of a block; R-13: a search answers by the hall alone
pub use Rattle.theorem.proofs.Demand3.{held_still, left_alone, find_alike}
-- an object that is held and released, as it is heard
pub use Rattle.theorem.proofs.HoldHeard.{hold_heard, release_heard}
-- R-12: an update sent ahead is heard in the frame where it falls, before that frame's own
pub use Rattle.theorem.proofs.AheadHeard.{heard_ahead, own_decides}
-- R-5: in a hall without a bed's speaker the bed is heard on another; no call writes an output's places of absent channels, no push and no flush a block's
pub use Rattle.theorem.proofs.Heard.{absent_heard}
pub use Rattle.theorem.proofs.Unwritten.{absent_unwritten}
pub use Rattle.theorem.proofs.AbsentKept.{absent_kept}
-- R-6: an object is heard on other speakers where the hall's table has them elsewhere, and the built-in table makes what is made without one
pub use Rattle.theorem.proofs.Elsewhere.{elsewhere, built_in_loaded}
-- R-4: a push that completes no block leaves every place but those of its samples alone; two samples that stand behind each other
pub use Rattle.theorem.proofs.Appends.{appends}
pub use Rattle.theorem.proofs.Waiting.{both_wait}
-- a list of calls whose loud past has left the low-pass
pub use Rattle.theorem.proofs.Forgotten.{past_gone}
-- R-8: how soon the level returns, read from a block's bytes; an explosion after which it does; with one block less it does not
pub use Rattle.theorem.proofs.LevelReturned.{level_returns, gain_returns}
pub use Rattle.theorem.proofs.Explosion.{level_back}
pub use Rattle.theorem.proofs.OneLess.{one_less}
-- 01's cases marked P
pub use Rattle.theorem.proofs.Marked.{table}
-- what a valid block holds is within its ranges, and what a push or a flush leaves of it
pub use Rattle.theorem.proofs.Sound.{Within}
pub use Rattle.theorem.proofs.BlockRanges.{ranged, front_ranged, decoded_of}
pub use Rattle.theorem.proofs.Demand3.{pushed_within, flushed_within}
unfoldable pub use Rattle.theorem.proofs.Demand3.{facts}
-- the shape that an update and a slot give, and the codes and updates of metadata
pub use Rattle.theorem.proofs.TimedShapes.{shape_apply, shape_given, shape_slot, each_same, codes_are}
pub use Rattle.theorem.proofs.Checked.{each_all}
pub use Rattle.theorem.proofs.Applied.{codes_long}
-- metadata placed in its frame gives the rules' updates: a frame's own, and those that wait
pub use Rattle.theorem.proofs.SentFrom.{own_sent, kept_sent}
