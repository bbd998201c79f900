-- Document 01's `hallrender`: a sample's line. Assumes nothing.
use Rattle.std.specs.Prelude.{ℕ, zero, suc, ◌+◌, ◌*◌, List, [], ◌∷◌, ◌++◌}
use Rattle.words.specs.Words.{word}
use Rattle.io.specs.Digits.{last_digits}

-- "8-digit lower-case hexadecimal words (the f32's bits)"
unfoldable pub hex8 : ℕ → List ℕ
hex8 w = last_digits 16 8 w

-- the words of the first n channels at sample i, a space behind each; the stride is 256
unfoldable pub cells : List ℕ → ℕ → ℕ → List ℕ
cells out i zero = []
cells out i (suc c) = cells out i c ++ (hex8 (word out (1024 * c + 4 * i)) ++ (32 ∷ []))

-- "lines of twelve .. words .., one space apart, by channel"
abbrev pub line_of : List ℕ → ℕ → List ℕ
line_of out i = cells out i 11 ++ (hex8 (word out (11264 + 4 * i)) ++ (10 ∷ []))
