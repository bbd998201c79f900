-- A reader may skip this file: what the comparison of two tables answers. Assumes nothing.
use Rattle.std.specs.Prelude.{ℕ, zero, suc, Bool, true, ◌&&◌, List, eqb, get_or}

-- their first n words are equal
unfoldable pub equal_below : List ℕ → List ℕ → ℕ → Bool
equal_below xs ys zero = true
equal_below xs ys (suc n) = equal_below xs ys n && eqb (get_or xs n 0) (get_or ys n 0)
