-- One element more of a copy from the front. Assumes nothing.
use mathlib.Core.Path.{◌≡◌, refl, ap}
use mathlib.Core.List.{List, [], ◌∷◌, ◌++◌}
use Prim.Native.Nat.{ℕ, zero, suc, ◌+◌, ◌<◌}
use native.Mathlib.Nat.{not-suc-le-zero, le_of_suc-le-suc}
use native.Mathlib.Numerals.{add-one}
use lib.ListN.{length, get_or, set, take, drop}

more_suc : (i : ℕ) (s d : List ℕ) → i < length s → i < length d → set (take i s ++ drop i d) i (get_or s i 0) ≡ take (suc i) s ++ drop (suc i) d
more_suc i [] d h k = absurd (not-suc-le-zero h)
more_suc i (x ∷ s) [] h k = absurd (not-suc-le-zero k)
more_suc zero (x ∷ s) (y ∷ d) h k = refl
more_suc (suc i) (x ∷ s) (y ∷ d) h k = ap (λ (t : List ℕ). x ∷ t) (more_suc i s d (le_of_suc-le-suc h) (le_of_suc-le-suc k))

pub more : (i : ℕ) (s d : List ℕ) → i < length s → i < length d → set (take i s ++ drop i d) i (get_or s i 0) ≡ take (i + 1) s ++ drop (i + 1) d
more i s d h k = rw add-one (more_suc i s d h k)
