-- Document 02, R-6: which tables are refused, sentence by sentence: a layout's code and a table's bytes, and what a making call finds there. Assumes nothing.
use Rattle.std.specs.Prelude.{ℕ, ◌*◌, List, [], ◌∷◌, ◌++◌, drop, replicate}
use Rattle.words.specs.Words.{with_words}
use Rattle.panning.specs.Setup.{built_in_table}
use Rattle.rules.specs.Refusals.{Found, clear, stop}

pub record TableCase : Type 0 where
  pub layout : ℕ
  pub bytes : List ℕ
  pub finds : Found

abbrev case : ℕ → List ℕ → Found → TableCase
case n t v = record { layout = n; bytes = t; finds = v }

-- the bytes of a table of these words, and of the built-in one
abbrev pub bytes_of_words : List ℕ → List ℕ
bytes_of_words ws = with_words (replicate 144 0) 0 ws

abbrev pub built_in_bytes : List ℕ
built_in_bytes = bytes_of_words built_in_table

-- this table, with channel k at a place
abbrev moved_to : ℕ → ℕ → ℕ → ℕ → List ℕ → List ℕ
moved_to k x y z t = with_words t (12 * k) (x ∷ y ∷ z ∷ [])

abbrev moved : ℕ → ℕ → ℕ → ℕ → List ℕ
moved k x y z = moved_to k x y z built_in_bytes

-- all twelve one above another
abbrev mast : List ℕ → List ℕ
mast [] = []
mast (y ∷ ys) = 0 ∷ y ∷ 0 ∷ mast ys

abbrev pub table_cases : List TableCase
table_cases =
    -- "16 for a length other than 144, .. checked in that order after 15"
    case 4 [] (stop 15 0 0) ∷
    case 0 (drop 1 built_in_bytes) (stop 16 0 0) ∷
    case 0 (built_in_bytes ++ (0 ∷ [])) (stop 16 0 0) ∷
    -- "With the built-in values loaded": there 3 stands where 2 does
    case 0 built_in_bytes clear ∷
    -- "Each coordinate must be finite and from -1 to 1": so are both ends and -0.0, and not the next f32, an infinity and a NaN
    case 0 (moved 4 0xbf80_0000 0x3f80_0000 0x8000_0000) clear ∷
    case 0 (moved 4 0x3f80_0001 0 0) (stop 17 0 0) ∷
    case 0 (moved 4 0 0xbf80_0001 0) (stop 17 0 0) ∷
    case 0 (moved 4 0 0 0x7f80_0000) (stop 17 0 0) ∷
    case 0 (moved 4 0 0 0x7fc0_0000) (stop 17 0 0) ∷
    -- "channel 3's record is read but never used for panning": read, a NaN there is 17
    case 0 (moved 3 0 0 0x7fc0_0000) (stop 17 0 0) ∷
    -- never used: it may be where 0 is
    case 0 (moved 3 0xbf35_04f3 0 0x3f80_0000) clear ∷
    -- "A full table is checked even where the layout lacks some speakers": in 5.1.0, 10 and 11
    case 3 (moved 10 0 0 0x4000_0000) (stop 17 0 0) ∷
    case 3 (moved 10 0x3f35_04f3 0x3f80_0000 0xbf80_0000) (stop 18 0 0) ∷
    -- "No two full-range speakers may have equal coordinates, the two zeros being equal": 1 where 2 is
    case 0 (moved 1 0x8000_0000 0x8000_0000 0x3f80_0000) (stop 18 0 0) ∷
    -- "17 for a coordinate, 18 for equal positions, checked in that order": both are there
    case 0 (moved_to 1 0 0 0x3f80_0000 (moved 0 0 0 0x4000_0000)) (stop 17 0 0) ∷
    -- 0 where 1 is, and a coordinate of the last record
    case 0 (moved_to 11 0 0 0x4000_0000 (moved 0 0x3f35_04f3 0 0x3f80_0000)) (stop 17 0 0) ∷
    -- and without that coordinate
    case 0 (moved 0 0x3f35_04f3 0 0x3f80_0000) (stop 18 0 0) ∷
    -- "Any number of heights is allowed": eleven, from -1 to 1
    case 0
    (bytes_of_words
    (mast
    (0xbf80_0000 ∷ 0xbf40_0000 ∷ 0xbf00_0000 ∷ 0 ∷ 0xbe80_0000 ∷ 0 ∷ 0x3e80_0000 ∷ 0x3ec0_0000 ∷ 0x3f00_0000 ∷ 0x3f20_0000 ∷ 0x3f40_0000 ∷ 0x3f80_0000 ∷ [])))
    clear ∷ []
