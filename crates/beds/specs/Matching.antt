-- Which input feeds a bed. Document 01, item 3: "The two LFE codes match each other when no exact match exists". Assumes nothing.
use Rattle.std.specs.Prelude.{ℕ, Bool, cond, ◌&&◌, ◌||◌, List, eqb, Option, None, position, count_by}
use Rattle.std.specs.Option.{option_or}

abbrev pub low_frequency : ℕ → Bool
low_frequency code = eqb code 3 || eqb code 17

-- an input's code feeds a bed's: the same, or both LFE
abbrev pub matches : ℕ → ℕ → Bool
matches requested provided = eqb requested provided || (low_frequency requested && low_frequency provided)

-- the first place of a or b
unfoldable pub first_of : ℕ → ℕ → List ℕ → Option ℕ
first_of a b cs = position (λ c. eqb c a || eqb c b) cs

-- the first input of the bed's own code; where there is none, for an LFE bed the first LFE input
unfoldable pub matching : ℕ → List ℕ → Option ℕ
matching code inputs = option_or (first_of code code inputs) (cond (low_frequency code) (first_of 3 17 inputs) None)

-- how many of the codes match a bed: the counts of refusal 13, "`BedChannelCountMismatch` (expected, 0)"
abbrev pub counted : ℕ → List ℕ → ℕ
counted code cs = count_by (matches code) cs
