-- Document 01, "It prints `ready N` and N lines": the text of each answer. Assumes nothing.
use Rattle.std.specs.Prelude.{ℕ, zero, suc, ◌/◌, ◌%◌, min, cond, List, [], ◌∷◌, ◌++◌, ltb}
use Prim.Native.Char.{code}
use Prim.Native.String.{String, [] as []ˢ, ◌∷◌ as ◌∷ˢ◌}
use Rattle.io.specs.Digits.{hex_digit_ascii}
use Rattle.listing.specs.Line.{line_of}

-- the bytes of a text in ASCII
abbrev pub ascii : String → List ℕ
ascii []ˢ = []
ascii (c ∷ˢ s) = code c ∷ ascii s

-- "in decimal", with no zero in front: of a number that is at most f
abbrev pub decimal_to : ℕ → ℕ → List ℕ
decimal_to zero n = hex_digit_ascii n ∷ []
decimal_to (suc f) n = cond (ltb n 10) (hex_digit_ascii n ∷ []) (decimal_to f (n / 10) ++ (hex_digit_ascii (n % 10) ∷ []))

unfoldable pub decimal : ℕ → List ℕ
decimal n = decimal_to n n

-- the lines of the first n samples
unfoldable pub lines_of : List ℕ → ℕ → List ℕ
lines_of out zero = []
lines_of out (suc n) = lines_of out n ++ line_of out n

-- "`ready N` and N lines"; at stride 256 a call of a run has no more than 256 (`fits` of `Rattle.rules.specs.Demand3`'s `GivenOut`)
abbrev pub ready_text : ℕ → List ℕ → List ℕ
ready_text n out = (ascii "ready " ++ (decimal n ++ ascii "\n")) ++ lines_of out (min n 256)

-- "`refused K A B` in decimal"
abbrev pub refused_text : ℕ → ℕ → ℕ → List ℕ
refused_text k a b = ascii "refused " ++ (decimal k ++ (ascii " " ++ (decimal a ++ (ascii " " ++ (decimal b ++ ascii "\n")))))

-- "`none`"; "`reset`"
abbrev pub none_text : List ℕ
none_text = ascii "none\n"

abbrev pub reset_text : List ℕ
reset_text = ascii "reset\n"
