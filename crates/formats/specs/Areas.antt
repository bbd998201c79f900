-- The areas of the state block behind the small part, as formats: the object infos, and the places of pending samples, a row for each channel. Document 01: an update has
-- "up to 32 objects in all", "2 elements, 8 blocks each", so that there are 512 infos; "pending samples .. below 64", of twelve channels, "its floats of any bits". Both areas stay
-- bytes between calls, so that what no rule sets keeps its bits. Assumes nothing.
use Rattle.std.specs.Prelude.{ℕ, zero, suc, ◌+◌, ◌*◌, Bool, true, ◌&&◌, List}
use Rattle.words.specs.Words.{word}
use Rattle.formats.specs.Format.{Format, u32_any, array}
use Rattle.formats.specs.Info.{head_valid, ObjectInfo, info_format}

-- ---- infos, and their bytes

abbrev pub info_count : ℕ
info_count = 512

abbrev pub infos_format : Format (List ObjectInfo)
infos_format = array info_count info_format

abbrev pub info_bytes : ℕ
info_bytes = 4 * info_format.width

abbrev pub infos_bytes : ℕ
infos_bytes = 4 * infos_format.width

-- the heads of n infos from byte `at` on; `heads_format` of proofs/HeadsTested: it is the test of n infos by their format
unfoldable pub heads_valid : List ℕ → ℕ → ℕ → Bool
heads_valid is at zero = true
heads_valid is at (suc n) = head_valid (word is at) && heads_valid is (at + info_bytes) n

-- ---- rows of places, each a word of any bits, and their bytes

abbrev pub row_count : ℕ
row_count = 12

abbrev pub row_places : ℕ
row_places = 64

abbrev pub row_format : Format (List ℕ)
row_format = array row_places u32_any

abbrev pub places_format : Format (List (List ℕ))
places_format = array row_count row_format

abbrev pub row_bytes : ℕ
row_bytes = 4 * row_format.width

abbrev pub place_count : ℕ
place_count = places_format.width

abbrev pub places_bytes : ℕ
places_bytes = 4 * places_format.width
