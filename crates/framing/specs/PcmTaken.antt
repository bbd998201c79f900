-- A reader may skip this file: what the functions that take PCM out of its records leave, by what they answer. Assumes nothing.
use Rattle.std.specs.Prelude.{ℕ, min, ◌≡◌, true, false, List, ◌++◌, length, take, drop, Result, Ok, Err}
use Rattle.framing.specs.Framing.{is_pcm, are_pcm, held_in, record_count}

-- a record's bytes at the front of `rest`; nothing of a record that is not as laid out
abbrev pub Taken : {A E : Type 0} → List ℕ → List ℕ → Result A E → List ℕ → Type 0
Taken rec rest (Ok _) now = let n = min (length rest) 36 in (is_pcm n rec ≡ true) × (now ≡ take n (drop 4 rec) ++ drop n rest)
Taken rec rest (Err _) now = (is_pcm (min (length rest) 36) rec ≡ false) × (now ≡ rest)

-- n bytes of PCM taken out of their records, or a record is not as laid out
abbrev pub Unpacked : {A E : Type 0} → List ℕ → ℕ → Result A E → List ℕ → Type 0
Unpacked s n (Ok _) pcm = (are_pcm n s (record_count n) ≡ true) × (pcm ≡ held_in n s (record_count n))
Unpacked s n (Err _) pcm = are_pcm n s (record_count n) ≡ false
