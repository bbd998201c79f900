-- Numbers, flags and floats as words, the low one first: document 01 has little-endian bytes. Assumes nothing.
use Rattle.std.specs.Prelude.{ℕ, ◌+◌, ◌*◌, ◌/◌, ◌%◌, Bool, cond, List, T, length, get_or, Float}
use Rattle.std.specs.Float.{binary32}
use Rattle.std.specs.Float.Ieee.{fits, of_bits, to_bits}
use Rattle.words.specs.Words.{words_at}

-- bytes as words, four bytes each
unfoldable pub in_words : List ℕ → List ℕ
in_words s = words_at s 0 (length s / 4)

-- a number in two words, the low one first
abbrev pub low : ℕ → ℕ
low n = n % 4294967296

abbrev pub high : ℕ → ℕ
high n = n / 4294967296 % 4294967296

abbrev pub long_of : List ℕ → ℕ → ℕ
long_of w i = get_or w i 0 + get_or w (i + 1) 0 * 4294967296

-- a flag: 1 or 0
abbrev pub bit : Bool → ℕ
bit b = cond b 1 0

-- an f32
abbrev pub Single : Float → Type 0
Single x = T (fits binary32 x)

abbrev pub bits : Float → ℕ
bits x = to_bits binary32 x

abbrev pub float_of : List ℕ → ℕ → Float
float_of w i = of_bits binary32 (get_or w i 0)
