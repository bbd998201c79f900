-- What the two calls answer, and what they leave where they refuse. Document 02, R-9: "a bad stride or a short slice is 1, a count above the stride is 2, both first. .. Refused: 19
-- for a length that is not a multiple of 36 when reading, 20 for a destination that is too short, in that order, and neither writes a byte; 21 when a sample to be written is NaN or
-- outside -1 to 1, checked last." Assumes nothing.
use Rattle.std.specs.Prelude.{ℕ, zero, suc, ◌+◌, ◌*◌, ◌/◌, ◌%◌, List, eqb, leb, ltb, Bool, true, ◌&&◌, cond, Result, Ok, Err, length, Float}
use Rattle.std.specs.Float.Ieee.{neg, le}
use Rattle.ieee.specs.Numbers.{1·0}
use Rattle.words.specs.Words.{float_at}
use Rattle.pcm24.specs.declared.Fault.{Fault}
use Rattle.pcm24.specs.declared.Fault.TheVariants.{Output, Count, Source, Destination, Sample}

abbrev pub number_of_fault_24 : Fault → ℕ
number_of_fault_24 Output = 1
number_of_fault_24 Count = 2
number_of_fault_24 Source = 19
number_of_fault_24 Destination = 20
number_of_fault_24 Sample = 21

-- "a stride, a multiple of 64 from 64 to 1,536. The output has 12 × stride places or more": places of four bytes
abbrev pub has_rows : ℕ → ℕ → Bool
has_rows stride bytes = eqb (stride % 64) 0 && leb 64 stride && leb stride 1536 && leb (48 * stride) bytes

-- not "NaN or outside -1 to 1"
abbrev pub writable : Float → Bool
writable x = le (neg 1·0) x && le x 1·0

-- each of the n samples from `at` on
unfoldable pub row_writable : List ℕ → ℕ → ℕ → Bool
row_writable s at zero = true
row_writable s at (suc n) = writable (float_at s at) && row_writable s (at + 4) n

-- each "sample to be written": the first `count` of n channels from c on
unfoldable pub rows_writable : List ℕ → ℕ → ℕ → ℕ → ℕ → Bool
rows_writable s stride count zero c = true
rows_writable s stride count (suc n) c = row_writable s (4 * (c * stride)) count && rows_writable s stride count n (c + 1)

-- the samples written on each channel, or the first fault
abbrev pub judged_to_write : List ℕ → ℕ → ℕ → ℕ → Result ℕ Fault
judged_to_write out stride count dest =
    cond (has_rows stride (length out))
    (cond (ltb stride count) (Err Count) (cond (ltb dest (36 * count)) (Err Destination) (cond (rows_writable out stride count 12 0) (Ok count) (Err Sample))))
    (Err Output)

-- the samples read on each channel, or the first fault, of a source and a destination of so many bytes
abbrev pub judged_to_read : ℕ → ℕ → Result ℕ Fault
judged_to_read source dest = cond (eqb (source % 36) 0) (cond (ltb dest (48 * (source / 36))) (Err Destination) (Ok (source / 36))) (Err Source)

-- the destination: what was converted, or what was there
abbrev pub left_by : Result ℕ Fault → List ℕ → List ℕ → List ℕ
left_by (Ok n) converted dest = converted
left_by (Err f) converted dest = dest
