-- What others may cite of this crate, a line each. Assumes nothing.

-- the search answers the first spot of the grid, by y, then z, then x, that sounds just as the mask says; and none exactly if there is no such spot
pub use Rattle.finding.proofs.Grids.{searched}
-- the mask of a place has bit c exactly if channel c sounds; it is never empty, has present full-range speakers alone, and is below 4,096
pub use Rattle.finding.proofs.Sets.{set_at}
-- so an empty mask, one with bit 3 or an absent speaker, and one above 4,095 give none
pub use Rattle.finding.proofs.Sets.{never_found}
-- the grid's steps are exact
pub use Rattle.finding.proofs.Steps.{steps}
-- a mask that is found, after ten places without it, and two that are not
pub use Rattle.finding.proofs.Examples.{pair_found, pair_absent, bass_absent}
-- the places of the grid may be panned, and the hall of the code is one that fits
pub use Rattle.finding.proofs.Sets.{position}
pub use Rattle.finding.proofs.Halls.{fits}
