-- What others may cite of this crate, a line each. Assumes nothing.

-- where a list is laid out it is whole records, so many updates and no more
pub use Rattle.records.proofs.Reached.{whole_records, found}
pub use Rattle.records.proofs.Updates.{whole_list}
-- a list of n updates is laid out, and n is its count; its updates are whole and rise
pub use Rattle.records.proofs.Updates.{n_updates, each_whole}
pub use Rattle.records.proofs.Within.{updates_rise, update_within}
-- else it has no updates
pub use Rattle.records.proofs.Updates.{unlaid_counts}
-- there, each update, element, block and object is one as laid out
pub use Rattle.records.proofs.Reached.{update_whole, update_is, element_whole, element_is, block_is, object_is}
-- and stands within the list
pub use Rattle.records.proofs.Reached.{update_place, element_place, block_place, object_place}
pub use Rattle.records.proofs.Within.{element_within}
-- the counts of an update and of an element are within their limits
pub use Rattle.records.proofs.Reached.{Counts, update_counts, blocks_few}
-- what holds at each of these places holds of every record
pub use Rattle.records.proofs.Placed.{AtPlaces, every_record_placed}
-- no refusal 6 exactly where each block and each object is within its ranges
pub use Rattle.records.proofs.RefusalSix.{Within, all_within, none_outside}
-- the next offset: at most the end, above t, the least such
pub use Rattle.records.proofs.Times.{next_within, next_above, next_least}
-- offsets that agree have the same next one, and the same first update at t
pub use Rattle.records.proofs.Times.{next_same, first_same}
-- `each`: its length and its elements
pub use Rattle.records.proofs.Each.{each_length, each_at}
-- what the first fault of a list, or none, says of it
pub use Rattle.records.proofs.Faults.{not_laid, not_in_range, faultless}
-- records within their ranges are as those that wait are asked to be; metadata laid out that is so is as an applied update asks
pub use Rattle.records.proofs.Fits.{in_range_fits, blocks_fit, objects_fit}
pub use Rattle.records.proofs.Passed.{passes, passes_all}
