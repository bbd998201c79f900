-- What others may cite of this crate, a line each. Assumes nothing.

-- laid samples keep the number of places, are none past the last channel, and are read back
pub use Rattle.chunk.proofs.Laying.{length_laid, laid_nil, laid_floats, fit_all}
-- the block as it would be with the rows laid
pub use Rattle.chunk.proofs.Laying.{as_laid}
