-- Which channels terms are on, as a number: bit c for channel c. Assumes nothing.
use Rattle.std.specs.Prelude.{ℕ, ◌+◌, ◌^◌, List, [], ◌∷◌}
use Rattle.panning.specs.Terms.{Term}

-- each term's bit, added up; so it is the set of their channels where no channel has two terms
unfoldable pub terms_bits : List Term → ℕ
terms_bits [] = 0
terms_bits (t ∷ ts) = 2 ^ t.channel + terms_bits ts
