-- What others may cite of this crate, a line each. Assumes nothing.

-- at each place of a row a term that is mixed in is the term added there
pub use Rattle.mixing.proofs.Sums.{full_at}
-- terms after terms are one sum
pub use Rattle.mixing.proofs.Sums.{total_append}
-- a sum of m terms within bounds is finite and within theirs
pub use Rattle.mixing.proofs.Bounded.{AddendWithin, total_bounded}
-- mixing keeps a row's length, and a gain of zero keeps the row
pub use Rattle.mixing.proofs.Mixed.{length_full, full_zero}
-- refusal 8: a sample passes exactly if its bits are small; each sample of a run that passes does so, is no NaN, and is finite and of size at most 16
pub use Rattle.mixing.proofs.RefusalEight.{passes_meant}
pub use Rattle.mixing.proofs.Passes.{pass_at, pass_plain}
pub use Rattle.mixing.proofs.RefusalEight.{sample_bounded}
-- samples out of bytes: how many, and each
pub use Rattle.mixing.proofs.Samples.{length-samples, sample-at}
-- a part of a list put through a function that keeps its length: the whole's length, the part, what is beside it
pub use Rattle.mixing.proofs.Parts.{part_back, length_part, part_same, part_earlier, part_later, part_before, part_within, part_past}
