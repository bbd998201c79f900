-- What others may cite of this crate, a line each. Assumes nothing.

-- each format has the laws: of one word or two
pub use Rattle.formats.proofs.Word.{lawful_u32_where, lawful_u32_to, lawful_u32_below, lawful_usize_to, lawful_u8_to, lawful_flag, lawful_three_flags, lawful_float, lawful_u64_to}
-- of a pair, an array, a struct, another range, a test more
pub use Rattle.formats.proofs.PairsAndArrays.{lawful_pair, lawful_array, lawful_struct, lawful_ranged, lawful_such}
-- of a vector, of an info's head, of an info; the test of infos is that of their heads, and a head is in range exactly if its fields are
pub use Rattle.formats.proofs.LawfulInfo.{lawful_vec, lawful_info_head, lawful_info, infos_test, head_within, head_exact}
-- so decode after encode is the value, a value in range passes the test, and words that spell a value are its words
pub use Rattle.formats.proofs.Places.{round, passes, spelled}
-- words in place: a list holds itself, and a word of a run of bytes, of all bytes
pub use Rattle.formats.proofs.Places.{stands_all, word_of_run, word_of_bytes}
-- two runs of words, or two values, one after the other
pub use Rattle.formats.proofs.Loops.{runs_at, pair_stored}
-- a turn of a loop that reads an array, that stores one, that tests one
pub use Rattle.formats.proofs.Loops.{room, gets_filled, gets_full, store_turn, store_none, store_all, all_step, all_stop, all_done}
-- tests at each place of an array, and of a column of it
pub use Rattle.formats.proofs.Loops.{all_same, all_any, all_both, most}
-- the heads of infos are valid exactly if the infos pass the test of their format
pub use Rattle.formats.proofs.HeadsTested.{heads_format}
-- an entry of an array, an array of words; the formats of infos and places have the laws, and a row of places is the words of its bytes
pub use Rattle.formats.proofs.Entries.{entry_read, no_entry, words_got, words_put, lawful_infos, lawful_places, row_got, no_row_got}
-- both of two tests
pub use Rattle.formats.proofs.Loops.{and_true, and_false, and_assoc}
pub use Rattle.formats.proofs.Places.{and_in}
