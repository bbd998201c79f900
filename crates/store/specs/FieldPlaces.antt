-- A reader may skip this file: where each field stands, worked out from the widths of those before it. Assumes nothing.
use Rattle.std.specs.Prelude.{ℕ, ◌+◌, ◌*◌}
use Rattle.formats.specs.Areas.{infos_bytes, places_bytes}
use Rattle.formats.specs.Format.{u8_to, float, array}
use Rattle.store.specs.Fields.{vec_format, source_format, element_format, filter_format, counts_format, basics_format, small_format, hall_format}

-- ---- in words: the rate, the clock, limiter and low-pass, what is pending

abbrev pub phase_at : ℕ
phase_at = 1

abbrev pub position_at : ℕ
position_at = phase_at + 1

abbrev pub start_at : ℕ
start_at = position_at + 2

abbrev pub limiter_gain_at : ℕ
limiter_gain_at = start_at + 2

abbrev pub pending_at : ℕ
pending_at = limiter_gain_at + 1 + filter_format.width

-- ---- the last applied update

abbrev pub state_at : ℕ
state_at = basics_format.width

abbrev pub objects_at : ℕ
objects_at = state_at + 1 + 2

abbrev pub isf_at : ℕ
isf_at = objects_at + 1

abbrev pub beds_at : ℕ
beds_at = isf_at + 1

abbrev pub in_use_at : ℕ
in_use_at = beds_at + 1

-- ---- its tables

abbrev pub tables_at : ℕ
tables_at = state_at + counts_format.width

abbrev pub gains_at : ℕ
gains_at = tables_at + (array 18 (u8_to 17)).width

abbrev pub sources_at : ℕ
sources_at = gains_at + (array 18 float).width

-- a source's marks (placed, wanted, held), in its words
abbrev pub marks_in : ℕ
marks_in = 2 + vec_format.width

-- an element's flags and its remaining ramp, in its words
abbrev pub flags_in : ℕ
flags_in = 1

abbrev pub remaining_in : ℕ
remaining_in = flags_in + 1

-- the two elements
abbrev pub first_at : ℕ
first_at = sources_at + (array 16 source_format).width

abbrev pub second_at : ℕ
second_at = first_at + element_format.width

-- ---- how many words the small part has; in bytes, where the infos, the places and the hall begin, and the whole

abbrev pub small_width : ℕ
small_width = small_format.width

abbrev pub infos_at : ℕ
infos_at = 4 * small_width

abbrev pub places_at : ℕ
places_at = infos_at + infos_bytes

abbrev pub hall_at : ℕ
hall_at = places_at + places_bytes

-- the hall's table, behind the layout's code: "twelve records of twelve bytes, x, y and z"
abbrev pub table_at : ℕ
table_at = hall_at + 4 * hall_format.width

abbrev pub table_count : ℕ
table_count = 12 * vec_format.width

abbrev pub setup_count : ℕ
setup_count = hall_format.width + table_count

abbrev pub hall_bytes : ℕ
hall_bytes = 4 * setup_count

abbrev pub size : ℕ
size = hall_at + hall_bytes
