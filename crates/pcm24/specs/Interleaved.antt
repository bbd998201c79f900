-- Where the bytes stand. Document 02, R-9: "three bytes, two's complement, least first, twelve channels interleaved"; when they are read, "one channel after another". So code c of
-- sample i is at 36 i + 3 c. Assumes nothing.
use Rattle.std.specs.Prelude.{ℕ, ◌+◌, ◌*◌, List, [], ◌∷◌, map}
use Rattle.std.specs.List.{range_with_len, flat_map}
use Rattle.std.specs.Float.{binary32}
use Rattle.std.specs.Float.Ieee.{to_bits}
use Rattle.words.specs.Words.{number, with_number, float_at}
use Rattle.pcm24.specs.Codes.{code_24, sample_24}

-- f a b for each b below n, for each a below m
abbrev pub in_rows : (ℕ → ℕ → ℕ) → ℕ → ℕ → List ℕ
in_rows f m n = flat_map (λ a. map (f a) (range_with_len 0 n)) (range_with_len 0 m)

-- s with these numbers of w bytes each from `at` on, least byte first
abbrev pub with_numbers : ℕ → List ℕ → ℕ → List ℕ → List ℕ
with_numbers w s at [] = s
with_numbers w s at (v ∷ vs) = with_numbers w (with_number s at w v) (at + w) vs

-- sample i of channel c of an output with this stride: "channel c starts at c × stride", in places of four bytes
abbrev pub code_at : List ℕ → ℕ → ℕ → ℕ → ℕ
code_at out stride i c = code_24 (float_at out (4 * (c * stride + i)))

-- what writing leaves: the codes of so many samples, and behind them what was there
abbrev pub interleaved : List ℕ → ℕ → ℕ → List ℕ → List ℕ
interleaved out stride count dest = with_numbers 3 dest 0 (in_rows (code_at out stride) count 12)

-- sample i of channel c of such bytes, as the word of an f32
abbrev pub word_read : List ℕ → ℕ → ℕ → ℕ
word_read s c i = to_bits binary32 (sample_24 (number s (36 * i + 3 * c) 3))

-- what reading leaves: n samples of each channel, and behind them what was there
abbrev pub in_channels : List ℕ → ℕ → List ℕ → List ℕ
in_channels s n dest = with_numbers 4 dest 0 (in_rows (word_read s) 12 n)
