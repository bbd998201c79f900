-- The numbers of the infos, in document 01's limits: "An update has up to 32 objects in all, .. 2 elements, 8 blocks each". Each object in each block of each element has an
-- info, of the format of formats/specs/Info. Assumes nothing.
use Rattle.std.specs.Prelude.{ℕ, ◌+◌, ◌*◌}
use Rattle.formats.specs.Info.{gain_in, size_in, distance_in, screen_in, position_in, last_in, send_in}
pub use Rattle.formats.specs.Areas.{info_bytes}

abbrev pub most_elements : ℕ
most_elements = 2

abbrev pub most_objects : ℕ
most_objects = 32

abbrev pub most_blocks : ℕ
most_blocks = 8

-- the infos of an element: 256
abbrev pub element_infos : ℕ
element_infos = most_objects * most_blocks

-- all infos: 512
abbrev pub all_infos : ℕ
all_infos = most_elements * element_infos

-- ---- bytes

-- of all infos: 24,576
abbrev pub all_bytes : ℕ
all_bytes = info_bytes * all_infos

-- where a word stands in its info
abbrev pub gain_byte : ℕ
gain_byte = 4 * gain_in

abbrev pub size_byte : ℕ
size_byte = 4 * size_in

abbrev pub distance_byte : ℕ
distance_byte = 4 * distance_in

abbrev pub screen_byte : ℕ
screen_byte = 4 * screen_in

abbrev pub position_byte : ℕ
position_byte = 4 * position_in

abbrev pub last_byte : ℕ
last_byte = 4 * last_in

abbrev pub send_byte : ℕ
send_byte = 4 * send_in

-- ---- where an info is

-- the info of object o in block b of element e
abbrev pub info_number : ℕ → ℕ → ℕ → ℕ
info_number e o b = e * element_infos + o * most_blocks + b

-- the byte at which info k starts
abbrev pub info_at : ℕ → ℕ
info_at k = info_bytes * k
