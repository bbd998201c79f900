-- What others may cite of this crate, a line each. Assumes nothing.

-- what was written is read back: a number of n bytes, an f32, a run of words
pub use Rattle.words.proofs.Back.{reads_back, float_reads_back, words_read_back}
-- `Kept`: a store changes no byte beside it; two stores into one range
pub use Rattle.words.proofs.Beside.{Kept, kept_twice, number_keeps, words_keep}
-- so what stands before or past it reads the same: a number, a run of words
pub use Rattle.words.proofs.Beside.{reads_before, reads_past, words_before, words_past}
-- a store keeps the length
pub use Rattle.words.proofs.Numbers.{length_kept}
pub use Rattle.words.proofs.Runs.{run_length_kept}
-- in bytes, a number is below 256 to the power of its width, and a store leaves bytes
pub use Rattle.words.proofs.Small.{number_small, run_small, number_bytes}
-- bytes are known by their numbers
pub use Rattle.words.proofs.Same.{same_bytes, same_words}
-- the lower bytes of a number and those above them
pub use Rattle.words.proofs.Numbers.{number_parts, written_joined}
-- a run of floats: its length, its elements, one more
pub use Rattle.words.proofs.Runs.{length_floats, float_at_is, floats_more}
-- what is written into a part that is lent is written into the whole
pub use Rattle.words.proofs.Part.{number_part, floats_back}
-- the patterns above an infinity's, the sign dropped, are those of the NaN
pub use Rattle.words.proofs.Nan.{above, not_above}
