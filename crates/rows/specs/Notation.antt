-- How the rows are written: metadata, calls, samples. A float is given by its bits, a negative number by `minus`. Assumes nothing.
use Rattle.std.specs.Prelude.{ℕ, zero, suc, ◌+◌, ◌-◌, ◌*◌, ◌/◌, ◌%◌, ◌^◌, List, [], ◌∷◌, ◌++◌, length, get_or, take, drop, set, replicate}
use Rattle.rules.specs.Refusals.{args_of}
use Rattle.rules.specs.Calls.{Call, push, flush, reset, make, make_with, mark, find}
use Rattle.rows.specs.Rows.{Turn, Row}

-- ---- bytes

-- the n lowest bytes of v, the lowest first
abbrev pub bytes : ℕ → ℕ → List ℕ
bytes zero v = []
bytes (suc n) v = v % 256 ∷ bytes n (v / 256)

abbrev pub words : List ℕ → List ℕ
words [] = []
words (w ∷ ws) = bytes 4 w ++ words ws

abbrev pub concat : {A : Type 0} → List (List A) → List A
concat [] = []
concat (xs ∷ xss) = xs ++ concat xss

-- s with the bytes xs from `at` on
abbrev pub put : ℕ → List ℕ → List ℕ → List ℕ
put at [] s = s
put at (x ∷ xs) s = put (suc at) xs (set s at x)

-- the 64 bits of -n
abbrev pub minus : ℕ → ℕ
minus n = 2 ^ 64 - n

-- ---- metadata

-- a record: 40 bytes, zero past those given
abbrev pub padded : List ℕ → List ℕ
padded xs = take 40 (xs ++ replicate 40 0)

-- at a sample offset: bed codes, the number of dynamic objects, elements
abbrev pub update : ℕ → List ℕ → ℕ → List (List ℕ) → List ℕ
update offset codes dynamic elements =
    let beds = length codes in
    padded (1 ∷ 0 ∷ bytes 2 offset ++ (beds + dynamic) ∷ beds ∷ beds ∷ length elements ∷ codes) ++ concat elements

-- an update of kind 9, which may lie far ahead: one at offset 0, with the offset in bytes 28 to 31
abbrev pub far : ℕ → List ℕ → List ℕ
far offset m = put 28 (bytes 4 offset) (put 0 (9 ∷ []) m)

-- beds alone, at offset 0
abbrev pub bed : List ℕ → List ℕ
bed codes = update 0 codes 0 []

-- metadata with one byte put wrong
abbrev pub spoilt : ℕ → ℕ → List ℕ → List ℕ
spoilt at b m = put at (b ∷ []) m

-- blocks; then each object in all blocks
abbrev pub element : List (List ℕ) → List (List ℕ) → List ℕ
element blocks objects = padded (2 ∷ length blocks ∷ []) ++ concat blocks ++ concat objects

-- offset and ramp
abbrev pub block_from : ℕ → ℕ → List ℕ
block_from offset ramp = put 8 (bytes 8 offset ++ bytes 8 ramp) (padded (3 ∷ []))

-- An object in a block: one that says nothing, in the room, both its factors 1; with more flags and with words from byte `at` on; each value that can be present.
abbrev pub object : List ℕ
object = put 28 (words (0x3f80_0000 ∷ 0x3f80_0000 ∷ [])) (padded (4 ∷ []))

abbrev pub flagged : ℕ → ℕ → List ℕ → List ℕ → List ℕ
flagged flags at ws o = put 2 ((get_or o 2 0 + flags) ∷ []) (put at (words ws) o)

abbrev pub valid_position : List ℕ → List ℕ
valid_position o = flagged 1 4 [] o

abbrev pub differential : List ℕ → List ℕ
differential o = flagged 2 4 [] o

abbrev pub gain : ℕ → List ℕ → List ℕ
gain g o = flagged 4 4 (g ∷ []) o

abbrev pub place : ℕ → ℕ → ℕ → List ℕ → List ℕ
place x y z o = flagged 8 8 (x ∷ y ∷ z ∷ []) o

abbrev pub distance : ℕ → List ℕ → List ℕ
distance d o = flagged 16 20 (d ∷ []) o

abbrev pub with_size : ℕ → List ℕ → List ℕ
with_size s o = flagged 32 24 (s ∷ []) o

abbrev pub screen : ℕ → List ℕ → List ℕ
screen f o = put 28 (words (f ∷ [])) o

abbrev pub depth : ℕ → List ℕ → List ℕ
depth f o = put 32 (words (f ∷ [])) o

abbrev pub screen_anchor : List ℕ → List ℕ
screen_anchor o = put 1 (1 ∷ []) o

abbrev pub on_speakers : List ℕ → List ℕ
on_speakers o = put 1 (2 ∷ []) o

abbrev pub at : ℕ → ℕ → ℕ → List ℕ
at x y z = valid_position (place x y z object)

-- An element whose objects are set at timecode 0, with a ramp. "A block is applied when the timecode is greater than its offset", so theirs has the offset -1.
-- It is the second block, since an element whose first offset is below 0 does nothing; in the first its objects say nothing.
abbrev pub after_first : List (List ℕ) → List (List ℕ)
after_first [] = []
after_first (o ∷ os) = object ∷ o ∷ after_first os

abbrev pub at_once : ℕ → List (List ℕ) → List ℕ
at_once ramp objects = element (block_from 0 0 ∷ block_from (minus 1) ramp ∷ []) (after_first objects)

-- ---- calls

abbrev pub output_for : ℕ → List ℕ
output_for stride = replicate (48 * stride) 0

-- stride and rate; samples, bed codes, the number of objects, the words of the PCM, updates
abbrev pub sent_by : ℕ → ℕ → ℕ → List ℕ → ℕ → List ℕ → List (List ℕ) → Call
sent_by stride rate samples codes objects pcm updates = push (args_of (words pcm) (concat updates) (output_for stride) codes rate samples objects stride)

abbrev pub sent : ℕ → List ℕ → ℕ → List ℕ → List (List ℕ) → Call
sent samples codes objects pcm updates = sent_by 64 48000 samples codes objects pcm updates

-- one sample, a half, of a front left bed, or of an object
abbrev pub of_bed : List (List ℕ) → Call
of_bed updates = sent 1 (0 ∷ []) 0 (0x3f00_0000 ∷ []) updates

abbrev pub of_object : List (List ℕ) → Call
of_object updates = sent 1 [] 1 (0x3f00_0000 ∷ []) updates

abbrev pub flush_at : ℕ → Call
flush_at stride = flush (output_for stride) stride

-- the same call with an output that is a byte short
abbrev pub short : Call → Call
short (push a) = push (args_of a.pcm a.meta (drop 1 a.out) a.codes a.rate a.samples a.objects a.stride)
short (flush out stride) = flush (drop 1 out) stride
short reset = reset
short (make n) = make n
short (make_with n t) = make_with n t
short (mark w d) = mark w d
short (find m) = find m

-- ---- samples

abbrev pub quiet : ℕ → List ℕ
quiet n = replicate n 0

-- PCM of as many channels as samples: channel k has w at sample k alone
abbrev pub diagonal_from : ℕ → ℕ → ℕ → List ℕ
diagonal_from zero k w = []
diagonal_from (suc n) k w = quiet k ++ w ∷ quiet n ++ diagonal_from n (suc k) w

abbrev pub diagonal_words : ℕ → ℕ → List ℕ
diagonal_words n w = diagonal_from n 0 w

-- samples given out: silent ones, and one that is heard on channel c alone
abbrev pub silence : ℕ → List (List ℕ)
silence n = replicate n (quiet 12)

abbrev pub only : ℕ → ℕ → List ℕ
only c w = set (quiet 12) c w

-- ---- rows

abbrev pub row_at : ℕ → List Turn → Row
row_at start turns = record { start = start; turns = turns }

abbrev pub as_row : List Turn → Row
as_row turns = row_at 0 turns
