-- What others may cite of this crate, a line each. Assumes nothing.

-- the rules over signed numbers are those over the numbers as they are kept
pub use Rattle.timed.proofs.Shifted.{due_shifted_is, left_shifted_is, left_over, over_shifted, less_shifted, remaining_shifted, active_shifted_is, begins_shifted_is}
-- a remaining ramp is read back from how it is kept, and a kept one from the number that it is
pub use Rattle.timed.proofs.Shifted.{remaining_reads_back, kept_reads_back}
-- a signed number as a difference: sums, differences and comparisons
pub use Rattle.timed.proofs.Differences.{Is, is_pos, is_less, is_plus, is_minus, is_natural, is_lt, is_le, is_one}
-- a slot keeps the ranges of the state; a later stream position has wider ones
pub use Rattle.timed.proofs.SlotInRange.{slot_within, within_later}
-- what the code reads of an info's bytes is what the info's format reads
pub use Rattle.timed.proofs.InfoFields.{gain_said_is, size_said_is, position_said_is, send_read}
-- an applied block sets the send, and a ramp leaves it
pub use Rattle.timed.proofs.SendSet.{block_sets_send, ramp_keeps_send}
-- a loop of n turns: those that are left lead from the value now to that at the end
pub use Rattle.timed.proofs.LoopTurns.{Leads, leads, leads_on, leads_to, turns}
-- what every turn keeps, what both ways of a test keep, what holds of every entry of a table
pub use Rattle.timed.proofs.Invariants.{times_in, times_keeps, times_both, cond_keeps, set_each, set_keeps, set_both}
-- turns that each change one entry of a table, and what one turn makes and the others leave
pub use Rattle.timed.proofs.TurnAt.{turned, turned_at, made}
-- R-11: what a hold and a release do to a slot, and before it
pub use Rattle.timed.proofs.HoldLaws.{held_stays, still_wanted, settles, again, undone}
pub use Rattle.timed.proofs.Releases.{goes_on, put_at_target, stays_put, all_stay, stands_until}
-- a hold is alone: all but its object's place goes on as without it
pub use Rattle.timed.proofs.Alone.{asked_alike, hold_alone}
-- where no object has a mark, a slot is document 01's
pub use Rattle.timed.proofs.Plain.{free_same, unmarked_slot, same_unheld}
-- what a slot leaves of the infos
pub use Rattle.timed.proofs.SlotInfos.{Like, like_refl, like_trans, like_head, moved_like, applied_like, slot_like}
-- what every step of a slot keeps of an object, the slot keeps of it
pub use Rattle.timed.proofs.SlotEach.{slot_each}
-- a slot that rests changes nothing
pub use Rattle.timed.proofs.Resting.{slot_rests}
