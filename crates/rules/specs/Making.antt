-- What a making call refuses, and the hall that it makes. Document 02, R-5 and R-6. Assumes nothing.
use Rattle.std.specs.Prelude.{ℕ, List, eqb, leb, length}
use Rattle.words.specs.Words.{words_at}
use Rattle.panning.specs.Setup.{Setup, table_place, all_inside, all_apart}
use Rattle.rules.specs.Refusals.{Found, ◌then◌, unless}

-- "twelve records of twelve bytes, x, y and z as little-endian f32, no header, in channel order"
abbrev pub table_words : List ℕ → List ℕ
table_words t = words_at t 0 36

-- layout n with the table of these bytes
abbrev pub hall_of : ℕ → List ℕ → Setup
hall_of n t = record { layout = n; table = table_words t }

-- R-5: "15, a layout code above 3, when a renderer is made"
abbrev pub layout_found : ℕ → Found
layout_found n = unless (leb n 3) 15 0 0

-- R-6: "16 for a length other than 144, 17 for a coordinate, 18 for equal positions, checked in that order after 15"
abbrev pub table_found : ℕ → List ℕ → Found
table_found n t =
    layout_found n
    then unless (eqb (length t) 144) 16 0 0
    then unless (all_inside (table_place (table_words t))) 17 0 0
    then unless (all_apart (table_place (table_words t))) 18 0 0
