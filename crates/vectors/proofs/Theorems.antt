-- What others may cite of this crate, a line each. Assumes nothing.

-- a head is read back from its word, and a word written back from its head
pub use Rattle.vectors.proofs.Heads.{head_reads_back, word_reads_back}
-- part by part
pub use Rattle.vectors.proofs.Heads.{flags_back, anchor_back, depth_back}
-- a flag of a head's word is one of its flags
pub use Rattle.vectors.proofs.Heads.{IsBit, flag_of_word}
-- what the definitions give has f32 components, where what they are given has
pub use Rattle.vectors.proofs.Fitting.{lerp_fits, map_to_cube_fits, room_fits, screen_fits, placed_fits}
