-- What others may cite of this crate, a line each. Assumes nothing.

-- rows of +0.0, all of them, into which the beds and then the objects are mixed hold what is heard at each moment of the run
pub use Rattle.render.proofs.HeardRows.{silent_long, run_heard}
-- with the bass row filtered they hold what the rules give
pub use Rattle.render.proofs.BassRow.{passed}
-- moments at which the same is heard leave the same rows and the same filter
pub use Rattle.render.proofs.SameHeard.{filter_as, run_as}
-- full lists fit whatever sounds, and those that a frame starts with are full and have room
pub use Rattle.render.proofs.Fitting.{full_fits, no_lists_sized}
-- the beds and the objects of a table with its count, as the hall's instance lists them
pub use Rattle.render.proofs.ListedScenes.{beds_each, sources_each}
-- PCM that suffices for more channels suffices for fewer
pub use Rattle.render.proofs.ChannelRows.{fewer}
-- rows written behind the pending samples are `laid` there, and the block keeps its length
pub use Rattle.render.proofs.Behind.{Fit, append_laid, length_channels}
