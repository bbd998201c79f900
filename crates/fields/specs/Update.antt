-- "1, update: 2-3 sample offset; 4 objects; 5 `bed_or_isf_objects`; 6 bed channels; 7 elements; 8-25 codes." R-12: "Kind 9 is kind 1 with the offset in bytes 28 to 31, unsigned
-- 32-bit, bytes 2 and 3 zero". Assumes nothing.
use Rattle.std.specs.Prelude.{ℕ, ◌+◌, ◌-◌, ◌*◌, Bool, cond, ◌&&◌, ◌||◌, leb, List, ◌==◌, nat_le, nat_lt, slice_index}
use Rattle.words.specs.Words.{half, word}
use Rattle.fields.specs.RecordBytes.{all, byte, kind, zero_bytes}
use Rattle.fields.specs.declared.update.Header.{Header}

-- an update that may lie far ahead
abbrev pub is_far : List ℕ → ℕ → Bool
is_far m u = kind m u == 9

abbrev pub offset : List ℕ → ℕ → ℕ
offset m u = cond (is_far m u) (word m (40 * u + 28)) (half m (40 * u + 2))

abbrev pub objects : List ℕ → ℕ → ℕ
objects m u = byte m u 4

-- it has no limit of its own
abbrev pub bed_or_isf_of : List ℕ → ℕ → ℕ
bed_or_isf_of m u = byte m u 5

abbrev pub beds : List ℕ → ℕ → ℕ
beds m u = byte m u 6

abbrev pub elements : List ℕ → ℕ → ℕ
elements m u = byte m u 7

-- the code of bed channel k
abbrev pub code : List ℕ → ℕ → ℕ → ℕ
code m u k = byte m u (8 + k)

-- what the record says, but for the codes
abbrev pub header_of : List ℕ → ℕ → Header
header_of m u = record { offset = record { 0 = offset m u }; objects = objects m u; bed_or_isf = bed_or_isf_of m u; beds = beds m u; elements = elements m u }

-- "An update has up to 32 objects in all, 16 of them dynamic, 18 bed channels (never more than objects), 2 elements"
abbrev pub counts_fit : ℕ → ℕ → ℕ → ℕ → Bool
counts_fit objects bed_or_isf_of beds elements =
    nat_le objects 32 && nat_le (objects - bed_or_isf_of) 16 && nat_le beds 18 && nat_le beds objects && nat_le elements 2

-- the largest byte that may stand at place k of the codes: 17 for a bed channel, zero past them
abbrev pub most_at : ℕ → ℕ → ℕ
most_at k beds = cond (nat_lt k beds) 17 0

unfoldable pub codes_fit : List ℕ → ℕ → ℕ → Bool
codes_fit m at beds = all (λ k. leb (slice_index m (at + k)) (most_at k beds)) 18

-- "Unused places are zero": those beside the offset
abbrev pub rest_clear : List ℕ → ℕ → Bool
rest_clear m r = cond (is_far m r) (zero_bytes m (40 * r + 2) 2 && zero_bytes m (40 * r + 26) 2 && zero_bytes m (40 * r + 32) 8) (zero_bytes m (40 * r + 26) 14)

-- record r is an update as laid out
unfoldable pub is_update : List ℕ → ℕ → Bool
is_update m r =
    ((kind m r == 1) || is_far m r) && byte m r 1 == 0 && counts_fit (objects m r) (bed_or_isf_of m r) (beds m r) (elements m r) && codes_fit m (40 * r + 8) (beds m r) && rest_clear m r
