-- A test of several parts, taken apart. Assumes nothing.
use mathlib.Core.Bool.{Bool, true, ◌&&◌}
use mathlib.Core.List.{List, [], ◌∷◌}
use lib.Dec.{T}
use lib.Ieee.Fits.{and_l, and_r}

-- every one of a list of tests
abbrev pub every : List Bool → Bool
every [] = true
every (b ∷ bs) = b && every bs

abbrev pub Every : List Bool → Type 0
Every [] = Unit
Every (b ∷ bs) = T b × Every bs

pub parts : (bs : List Bool) → T (every bs) → Every bs
parts [] t = tt
parts (b ∷ bs) t = (and_l b (every bs) t, parts bs (and_r b (every bs) t))
