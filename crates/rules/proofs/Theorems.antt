-- What others may cite of this crate, a line each. Assumes nothing.

-- demand 3 for every list of calls, from what an accepted making call leaves and from a new renderer in any hall in its ranges; that each of the four layouts can be made, with each
-- table that keeps the rules; and that a call leaves a valid block, from what the timed state, the metadata and the block owe
pub use Rattle.rules.proofs.Owed.{Mixable, Facts}
pub use Rattle.rules.proofs.Demand3FromFacts.{made_in, from_fresh, every_list, every_layout, every_table, built_in_alike}
pub use Rattle.rules.proofs.Keeps.{keeps}
-- R-12: what waits rides along: a push and a flush do the same whatever waits, and touch none of it
pub use Rattle.rules.proofs.Ahead.{after_with, updated_waits, sampled_waits, framed_waits, pushed_waits, flushed_waits}
pub use Rattle.rules.proofs.Clock.{waits_kept}
-- pushes, resets and making calls alone change it
pub use Rattle.rules.proofs.Erased.{waits_stay}
-- two lists of updates are applied one after the other
pub use Rattle.rules.proofs.Order.{at_both, updated_both}
-- R-11: an object with a hold asked for stays where it is over calls in a row, until something ends the hold
pub use Rattle.rules.proofs.Held.{held_still}
-- what changes nothing leaves every byte of the block; a search answers by the hall alone
pub use Rattle.rules.proofs.StateBlocks.{left_alone}
pub use Rattle.rules.proofs.Marks.{find_alike}
-- the halls in their ranges
pub use Rattle.rules.proofs.Making.{ranged_fits, right_hall, hall_good, TableGood}
-- a push that no reason speaks against is accepted, and what an accepted one passed
pub use Rattle.rules.proofs.Accepted.{accepts}
pub use Rattle.rules.proofs.Judged.{Passed, is_passed, PassedWith, is_passed_with, is_early, is_listed, is_roomy, is_sized, samples_fit, rate_high, and_true}
-- which tables are refused, case by case
pub use Rattle.rules.proofs.TableCases.{tables_judged}
-- in 7.1.4 each bed is routed as document 01 says; the beds that each layout pans
pub use Rattle.rules.proofs.Absent.{routed_714, folded_in, absent_beds}
-- on a channel that the hall lacks no bed and no object adds a term and nothing is heard, with gains, sizes and sends of any bits
pub use Rattle.rules.proofs.Absent.{bed_absent, object_absent, Placed, absent_unheard}
-- the places of a channel that the hall lacks are not read, whatever bits they have, and no call but one that starts anew writes them
pub use Rattle.rules.proofs.Unread.{absent_unread, absent_unread_along, absent_kept}
-- 7 never occurs
pub use Rattle.rules.proofs.Unused.{number_of, never_seven}
-- R-8: from a gain from 0 to 1, of any renderer and of any block in its ranges, enough quiet blocks in a row end with gain 1; a push into an empty scene is silent
pub use Rattle.rules.proofs.Returning.{level_returns, level_returns_on}
pub use Rattle.rules.proofs.EmptyScene.{silent_peaks}
-- ranges of a renderer, floats of any bits, kept by updates, slots, frames and flushes
pub use Rattle.rules.proofs.Ranged.{R, fresh_ranged, updated_ranged, slotted_ranged, framed_ranged, opened_ranged, pushed_ranged, flushed_ranged}
-- what updates and a slot leave alone, and the shape that they give; no sample changes the hall
pub use Rattle.rules.proofs.Clock.{untouched, setup_kept}
pub use Rattle.rules.proofs.PushShapes.{Matches, matches_on, judged, updated_shape, slotted_shape}
-- how many samples a channel has in a hall that may lack it
pub use Rattle.rules.proofs.EachOf.{length_sounding, all_sounding, count_sum, count_most, none_count, here_count, all_or_none}
-- lengths, and an output's word read back
pub use Rattle.rules.proofs.Limited.{length_limited}
pub use Rattle.rules.proofs.EachOf.{all_append, length_map, length_laid}
pub use Rattle.rules.proofs.Written.{written_reads}
-- a push that completes no block, on any renderer: which bits stand where; those of a channel that the hall lacks stay
pub use Rattle.rules.proofs.OpenBlock.{Behind, behind}
-- R-11: a slot that does the same wherever no hold is accepted
pub use Rattle.rules.proofs.OtherSlots.{calls_same}
