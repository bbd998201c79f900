-- What others may cite of this crate, a line each. Assumes nothing.

-- a renderer in range is read back from its block, which is of the block's size, bytes, and valid
pub use Rattle.store.proofs.Whole.{decode_encode, encode_long, encode_bytes, bytes_append}
pub use Rattle.store.proofs.Valid.{valid_encode, hall_encode}
-- a block of bytes is valid exactly if it has the right length and its parts pass the tests of their formats
pub use Rattle.store.proofs.ValidByFormats.{valid_by_formats}
-- what a valid block of bytes holds is in range, and its hall; so is the hall of any block of bytes whose hall is in its range
pub use Rattle.store.proofs.Decoded.{decode_ranged, hall_true, hall_ranged}
pub use Rattle.store.proofs.BlockTests.{layout_most}
-- a fresh renderer is in range, and its block is zeros but for its hall and three fields
pub use Rattle.store.proofs.Fresh.{fresh_ranged, encode_fresh}
-- a block that has a renderer's infos, places and hall becomes its block when the small part is saved
pub use Rattle.store.proofs.Whole.{saved_encode}
-- the small part: its formats have the laws, it is in range where the renderer is, it has so many words and is read back from them
pub use Rattle.store.proofs.SmallPartBack.{lawful_small_part, small_long, small_words_is, small_back}
pub use Rattle.store.proofs.Whole.{small_full}
-- the places of a block: a channel's row, none past the last channel; what is before them plays no part, nor what is before the hall in it
pub use Rattle.store.proofs.PendingRows.{places_row, no_places, places_beside, setup_beside}
-- the block's last bytes are places and hall; words of a block, and words as bytes
pub use Rattle.store.proofs.Rows.{rest_of, setup_is, bytes_of_words, words_front}
pub use Rattle.store.proofs.Bytes.{words_drop, bytes_back, stored}
pub use Rattle.store.proofs.Decoded.{words_long}
-- a block whose code is 0 and whose table is the built-in one has the 7.1.4 hall
pub use Rattle.store.proofs.HallTables.{as_714}
-- what holds at each place of a list holds of its elements
pub use Rattle.store.proofs.Whole.{all_at}
