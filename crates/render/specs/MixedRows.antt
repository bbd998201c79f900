-- A reader may skip this file: what the code leaves in twelve rows of 64 places, row c from place 64 × c on, term after term. At each place that is the sum of the terms on its
-- channel (`adds_terms`). Assumes nothing.
use Rattle.std.specs.Prelude.{ℕ, ◌*◌, ◌<◌, Bool, false, List, [], ◌∷◌, T, length, get_or, Float}
use Rattle.std.specs.Float.{binary32, nan}
use Rattle.std.specs.Float.Ieee.{fits}
use Rattle.formats.specs.Areas.{row_places}
use Rattle.mixing.specs.Mixing.{mixed_full}
use Rattle.mixing.specs.Part.{on_part}
use Rattle.panning.specs.Choice.{keep}
use Rattle.panning.specs.Speakers.{full_range}
use Rattle.panning.specs.Terms.{Term}

-- each is an f32
abbrev pub AreFloats : List Float → Type 0
AreFloats os = (i : ℕ) → T (fits binary32 (get_or os i nan))

-- the channels are among the twelve
abbrev pub AmongTwelve : List ℕ → Type 0
AmongTwelve ks = (j : ℕ) → get_or ks j 0 < 12

-- the full-range speakers of a hall with these marks
abbrev pub speakers_marked : List Bool → List ℕ
speakers_marked present = keep (λ k. get_or present k false) full_range

-- the samples times a term's coefficient, added to its channel's row
unfoldable pub mixed_term : List Float → Term → List Float → List Float
mixed_term xs t os = on_part (mixed_full xs t.coefficient) (row_places * t.channel) (length xs) os

-- one term after another
abbrev pub mixed_terms : List Float → List Term → List Float → List Float
mixed_terms xs [] os = os
mixed_terms xs (t ∷ ts) os = mixed_terms xs ts (mixed_term xs t os)
