-- Mixing into a row: its length, its elements, one sample more, a gain of zero. Assumes nothing.
use mathlib.Core.Path.{◌≡◌, refl, ap}
use mathlib.Core.Bool.{Bool, true, false, cond}
use mathlib.Core.List.{List, [], ◌∷◌}
use Prim.Native.Nat.{ℕ, zero, suc, ◌+◌, ◌<◌}
use native.Mathlib.Nat.{not-suc-le-zero, le_of_suc-le-suc}
use native.Mathlib.Numerals.{add-one}
use lib.ListN.{length, get_or, set, take}
use lib.Ieee.{Float, nan, binary32, add, mul, eq}
use Rattle.mixing.specs.Mixing.{0·0f, mixed, mixed_full}

pub length_mixed : (xs : List Float) (g : Float) (os : List Float) → length (mixed xs g os) ≡ length os
length_mixed [] g os = refl
length_mixed (x ∷ xs) g [] = refl
length_mixed (x ∷ xs) g (o ∷ os) = ap suc (length_mixed xs g os)

-- the element at i: the target, and the sample times the gain
pub mixed_at : (xs : List Float) (g : Float) (os : List Float) (i : ℕ) (d : Float) → i < length xs → i < length os
    → get_or (mixed xs g os) i d ≡ add binary32 (get_or os i d) (mul binary32 (get_or xs i d) g)
mixed_at [] g os i d h k = absurd (not-suc-le-zero h)
mixed_at (x ∷ xs) g [] i d h k = absurd (not-suc-le-zero k)
mixed_at (x ∷ xs) g (o ∷ os) zero d h k = refl
mixed_at (x ∷ xs) g (o ∷ os) (suc i) d h k = mixed_at xs g os i d (le_of_suc-le-suc h) (le_of_suc-le-suc k)

step_suc : (i : ℕ) (xs : List Float) (g : Float) (os : List Float) → i < length xs → i < length os
    → set (mixed (take i xs) g os) i (add binary32 (get_or (mixed (take i xs) g os) i nan) (mul binary32 (get_or xs i nan) g)) ≡ mixed (take (suc i) xs) g os
step_suc i [] g os h k = absurd (not-suc-le-zero h)
step_suc i (x ∷ xs) g [] h k = absurd (not-suc-le-zero k)
step_suc zero (x ∷ xs) g (o ∷ os) h k = refl
step_suc (suc i) (x ∷ xs) g (o ∷ os) h k =
    ap (λ (t : List Float). add binary32 o (mul binary32 x g) ∷ t) (step_suc i xs g os (le_of_suc-le-suc h) (le_of_suc-le-suc k))

-- one sample more
pub mixed_step : (i : ℕ) (xs : List Float) (g : Float) (os : List Float) → i < length xs → i < length os
    → set (mixed (take i xs) g os) i (add binary32 (get_or (mixed (take i xs) g os) i nan) (mul binary32 (get_or xs i nan) g)) ≡ mixed (take (i + 1) xs) g os
mixed_step i xs g os h k = rw (add-one i) (step_suc i xs g os h k)

-- ---- a gain of zero

module _ (xs : List Float) (g : Float) (os : List Float) where
  pub full_zero : eq g 0·0f ≡ true → os ≡ mixed_full xs g os
  unfolding mixed_full
  full_zero e = rw e

  pub full_mixed : eq g 0·0f ≡ false → mixed xs g os ≡ mixed_full xs g os
  unfolding mixed_full
  full_mixed e = rw e

  pub length_full : length (mixed_full xs g os) ≡ length os
  unfolding mixed_full
  length_full = go (eq g 0·0f)
    where
      go : (b : Bool) → length (cond b os (mixed xs g os)) ≡ length os
      go true = refl
      go false = length_mixed xs g os
