-- Document 01's `hallrender`: the records that it reads. Assumes nothing.
use Rattle.std.specs.Prelude.{ℕ, zero, suc, ◌+◌, ◌-◌, ◌*◌, ◌/◌, min, Bool, true, ◌&&◌, List, [], ◌++◌, eqb, leb, get_or, take, drop}
use Rattle.words.specs.Words.{half}
use Rattle.fields.specs.RecordBytes.{zero_bytes}

abbrev pub bed_count : List ℕ → ℕ
bed_count r = get_or r 10 0

-- "it takes up to 256 samples, 18 beds, 16 objects and 1,200 metadata records a frame"
unfoldable pub in_limits : List ℕ → Bool
in_limits r = leb (half r 8) 256 && leb (bed_count r) 18 && leb (get_or r 11 0) 16 && leb (half r 12) 1200

-- "5, frame (4-7 rate, 8-9 samples, 10 beds, 11 objects, 12-13 metadata records, 14-31 codes)"; "Unused places are zero."
unfoldable pub is_frame : List ℕ → Bool
is_frame r = eqb (get_or r 0 0) 5 && in_limits r && zero_bytes r 1 3 && zero_bytes r (14 + bed_count r) (26 - bed_count r)

-- "7, flush; 8, reset."
unfoldable pub is_plain : List ℕ → Bool
is_plain r = leb 7 (get_or r 0 0) && leb (get_or r 0 0) 8 && zero_bytes r 1 39

-- "records of kind 6 .., nine f32 each from byte 4", n bytes of them in use
unfoldable pub is_pcm : ℕ → List ℕ → Bool
is_pcm n r = eqb (get_or r 0 0) 6 && zero_bytes r 1 3 && zero_bytes r (4 + n) (36 - n)

abbrev pub metadata_bytes : List ℕ → ℕ
metadata_bytes r = 40 * half r 12

-- four bytes for each sample of each channel
abbrev pub pcm_bytes : List ℕ → ℕ
pcm_bytes r = 4 * ((bed_count r + get_or r 11 0) * half r 8)

-- ---- "its PCM in as few records of kind 6 as hold it", of n bytes

abbrev pub record_count : ℕ → ℕ
record_count n = (n + 35) / 36

abbrev pub record_bytes : ℕ → ℕ
record_bytes n = 40 * record_count n

-- record k of a list, and how many bytes of it are in use
abbrev pub record_at : List ℕ → ℕ → List ℕ
record_at s k = take 40 (drop (40 * k) s)

abbrev pub in_use : ℕ → ℕ → ℕ
in_use n k = min (n - 36 * k) 36

-- whether the first k records are of PCM
unfoldable pub are_pcm : ℕ → List ℕ → ℕ → Bool
are_pcm n s zero = true
are_pcm n s (suc k) = are_pcm n s k && is_pcm (in_use n k) (record_at s k)

-- what the first k records hold
unfoldable pub held_in : ℕ → List ℕ → ℕ → List ℕ
held_in n s zero = []
held_in n s (suc k) = held_in n s k ++ take (in_use n k) (drop 4 (record_at s k))

-- the records of PCM behind the metadata in the body of a frame with the header r; whether they are as laid out, and the PCM
abbrev pub pcm_records : List ℕ → List ℕ → List ℕ
pcm_records r body = take (record_bytes (pcm_bytes r)) (drop (metadata_bytes r) body)

abbrev pub is_body : List ℕ → List ℕ → Bool
is_body r body = are_pcm (pcm_bytes r) (pcm_records r body) (record_count (pcm_bytes r))

abbrev pub pcm_of : List ℕ → List ℕ → List ℕ
pcm_of r body = held_in (pcm_bytes r) (pcm_records r body) (record_count (pcm_bytes r))
