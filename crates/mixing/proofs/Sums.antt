-- A term mixed into a row is the term added at each place, and terms after terms are one sum. Assumes nothing.
use mathlib.Core.Path.{◌≡◌, refl}
use mathlib.Core.Bool.{Bool, true, false, cond}
use mathlib.Core.List.{List, [], ◌∷◌, ◌++◌}
use Prim.Native.Nat.{ℕ, ◌<◌}
use lib.ListN.{length, get_or}
use lib.Ieee.{Float, nan, binary32, add, mul, eq}
use Rattle.mixing.specs.Mixing.{0·0f, mixed, mixed_full}
use Rattle.mixing.specs.Sums.{Addend, plus, total}
use Rattle.mixing.proofs.Mixed.{mixed_at}

-- one term over a row
pub full_at : (xs : List Float) (g : Float) (os : List Float) (i : ℕ) → i < length xs → i < length os
    → get_or (mixed_full xs g os) i nan ≡ plus (get_or os i nan) (record { coef = g; sample = get_or xs i nan })
unfolding mixed_full
full_at xs g os i h k = go (eq g 0·0f)
  where
    go : (b : Bool) → get_or (cond b os (mixed xs g os)) i nan ≡ cond b (get_or os i nan) (add binary32 (get_or os i nan) (mul binary32 (get_or xs i nan) g))
    go true = refl
    go false = mixed_at xs g os i nan h k

-- terms after terms
pub total_append : (ts us : List Addend) (s : Float) → total s (ts ++ us) ≡ total (total s ts) us
total_append [] us s = refl
total_append (t ∷ ts) us s = total_append ts us (plus s t)
