-- What others may cite of this crate, a line each. Assumes nothing.

-- `Judged`: `matching` finds a place among the inputs whose code matches, or none is counted; so refusal 13's second count is 0
pub use Rattle.beds.proofs.Matches.{Judged, judged}
-- and where none is counted it finds nothing
pub use Rattle.beds.proofs.Matches.{counted_none}
-- a direct channel is one of the twelve, and not the bass channel, in any hall too
pub use Rattle.beds.proofs.Channels.{direct_channel, direct_in}
-- a hall that has all twelve channels routes each bed as document 01 does
pub use Rattle.beds.proofs.Channels.{route_all_here}
-- what holds at each number of a range, shown one by one
pub use Rattle.beds.proofs.Range.{Each, between}
