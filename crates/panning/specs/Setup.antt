-- A hall as a renderer has it: which of the twelve channels have a speaker, and where the speakers stand; and what is mixed of an object in it. Document 02, R-5 and R-6. A hall
-- made without a table has the built-in one, whose places are those of specs/Speakers (`built_in_places` of proofs/Setup). Assumes nothing.
use Rattle.std.specs.Prelude.{ℕ, ◌+◌, ◌*◌, ◌≤◌, ◌≡◌, Bool, false, not, ◌&&◌, List, [], ◌∷◌, pos, T, eqb, ltb, get_or, Float}
use Rattle.std.specs.Float.{fin, binary32}
use Rattle.std.specs.Float.Ieee.{of_bits, to_bits}
use Rattle.vectors.specs.declared.Vec3.{Vec3}
use Rattle.panning.specs.declared.Panned.{Panned}
use Rattle.corners.specs.Choice.{keep, every_of}
use Rattle.panning.specs.Coefficients.{8·0}
use Rattle.corners.specs.Table.{Table, placed_inside, distinct}
use Rattle.panning.specs.Terms.{Term, panned, terms, on_channel}
use Rattle.panning.specs.Speakers.{positions714, full_range, 12·0}

-- the layout's code, and the hall table: 36 words, "x, y and z as little-endian f32, .. in channel order". They are bits, so that a block keeps them bit for bit, -0.0 too.
pub record Setup : Type 0 where
  pub layout : ℕ
  pub table : List ℕ

-- ---- where the speakers stand

-- word i; a NaN past the end
abbrev pub table_float : List ℕ → ℕ → Float
table_float t i = of_bits binary32 (get_or t i 0x7fc00000)

-- where a table has channel k
unfoldable pub table_place : List ℕ → ℕ → Vec3
table_place t k = record { x = table_float t (3 * k); y = table_float t (3 * k + 1); z = table_float t (3 * k + 2) }

abbrev pub place_in : Setup → ℕ → Vec3
place_in s = table_place s.table

-- ---- the tables that are accepted

abbrev pub all_channels : List ℕ
all_channels = 0 ∷ 1 ∷ 2 ∷ 3 ∷ 4 ∷ 5 ∷ 6 ∷ 7 ∷ 8 ∷ 9 ∷ 10 ∷ 11 ∷ []

-- "Each coordinate must be finite and from -1 to 1": of all twelve records, also where "channel 3's record is read but never used for panning"
unfoldable pub all_inside : (ℕ → Vec3) → Bool
unfolding every_of
all_inside sp = every_of (λ k. placed_inside (sp k)) all_channels

-- "No two full-range speakers may have equal coordinates, the two zeros being equal"
unfoldable pub all_apart : (ℕ → Vec3) → Bool
unfolding distinct
all_apart sp = distinct sp full_range

-- "A full table is checked even where the layout lacks some speakers"
abbrev pub table_right : List ℕ → Bool
table_right t = all_inside (table_place t) && all_apart (table_place t)

-- ---- which there are

-- "layout code 0 for 7.1.4, then 1, 2, 3 in the order above": "5.1.4 lacks channels 4 and 5, 7.1.0 lacks the four top channels, 5.1.0 lacks both groups"
abbrev pub lacking : List (List ℕ)
lacking = [] ∷ (4 ∷ 5 ∷ []) ∷ (8 ∷ 9 ∷ 10 ∷ 11 ∷ []) ∷ (4 ∷ 5 ∷ 8 ∷ 9 ∷ 10 ∷ 11 ∷ []) ∷ []

-- layout n has channel k, 3 included; there is no layout above 3
unfoldable pub present : ℕ → ℕ → Bool
present n k = ltb n 4 && (ltb k 12 && every_of (λ j. not (eqb k j)) (get_or lacking n []))

-- the full-range speakers present
unfoldable pub speakers_in : ℕ → List ℕ
unfolding keep
speakers_in n = keep (present n) full_range

abbrev pub 10·0 : Float
10·0 = fin false 5 (pos 1)

abbrev pub 6·0 : Float
6·0 = fin false 3 (pos 1)

-- "The size term divides by 12, 10, 8 or 6"
unfoldable pub divisor_in : ℕ → Float
divisor_in n = get_or (12·0 ∷ 10·0 ∷ 8·0 ∷ 6·0 ∷ []) n 12·0

-- which of the twelve channels layout n has, as the code marks them
abbrev pub marks_of : ℕ → List Bool
marks_of n =
    present n 0 ∷ present n 1 ∷ present n 2 ∷ present n 3 ∷ present n 4 ∷ present n 5 ∷ present n 6 ∷ present n 7 ∷ present n 8 ∷ present n 9 ∷ present n 10 ∷ present n 11 ∷ []

-- channel k is one of them, and not the bass channel
abbrev pub SpeakerOf : ℕ → ℕ → Type 0
SpeakerOf n k = T (present n k) × (k ≡ 3 → ⊥)

-- the speakers of layout n are l, and a size is divided by d (`layouts` of proofs/Setup has the four)
pub record LayoutIs (n : ℕ) (l : List ℕ) (d : Float) : Type 0 where
  pub speakers : speakers_in n ≡ l
  pub divisor : divisor_in n ≡ d

-- ---- the halls with "the built-in table", of which that of document 01 is 7.1.4

unfoldable pub table_of : List Vec3 → List ℕ
table_of [] = []
table_of (v ∷ vs) = to_bits binary32 v.x ∷ to_bits binary32 v.y ∷ to_bits binary32 v.z ∷ table_of vs

-- where a table of these places has each channel
abbrev pub table_places : List Vec3 → ℕ → Vec3
table_places vs = table_place (table_of vs)

abbrev pub built_in_table : List ℕ
built_in_table = table_of positions714

-- a layout with it
abbrev pub hall_with : ℕ → Setup
hall_with n = record { layout = n; table = built_in_table }

-- ---- a hall that may be panned in: one of the four layouts, and a full table, "even where the layout lacks some speakers"
pub record HallFits (s : Setup) : Type 0 where
  pub layout : s.layout ≤ 3
  pub table : Table (place_in s) full_range

-- ---- document 01, item 4: "`render_object_timeslot_to_714`": what is mixed of an object at the place p, for the gain g and the size z

abbrev pub panned_in : Setup → Vec3 → Float → Float → Panned
panned_in s p g z = panned (place_in s) (speakers_in s.layout) (divisor_in s.layout) p g z

abbrev pub terms_in : Setup → Vec3 → Float → Float → List Term
terms_in s p g z = terms (speakers_in s.layout) (panned_in s p g z)

-- the coefficients that it adds on channel c
abbrev pub pan_in : Setup → Vec3 → Float → Float → ℕ → List Float
pan_in s p g z c = on_channel c (terms_in s p g z)
