-- A reader may skip this file: the block of a fresh renderer as `make` writes it, zeros but for the limiter gain 1.0, the two remaining ramps 0, which stand plus 2^47, and the
-- hall. Assumes nothing.
use Rattle.std.specs.Prelude.{ℕ, ◌+◌, ◌*◌, List, replicate}
use Rattle.words.specs.Words.{with_word, with_long, with_words}
use Rattle.timed.specs.Slot.{middle}
use Rattle.panning.specs.Setup.{Setup}
use Rattle.store.specs.FieldPlaces.{limiter_gain_at, remaining_in, first_at, second_at, hall_at, table_at, size}

abbrev pub marked : List ℕ → List ℕ
marked s = with_long (with_long (with_word s (4 * limiter_gain_at) 0x3f80_0000) (4 * (first_at + remaining_in)) middle) (4 * (second_at + remaining_in)) middle

unfoldable pub filled : Setup → List ℕ
filled h = with_words (with_word (marked (replicate size 0)) hall_at h.layout) table_at h.table
