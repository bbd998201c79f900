-- Laws of `each`: the lists of a meaning, place by place. Assumes nothing.
use Prim.Native.Nat.{ℕ, zero, suc, ◌<◌}
use mathlib.Core.Path.{◌≡◌, refl, ap}
use native.Mathlib.Nat.{le_of_suc-le-suc}
use native.Mathlib.Omega.{arith}
use lib.ListN.{length, get_or}
use Rattle.records.specs.Runs.{each}

module _ {A : Type 0} where
  pub each_length : (f : ℕ → A) (n : ℕ) → length (each f n) ≡ n
  unfolding each
  each_length f zero = refl
  each_length f (suc n) = ap suc (each_length (λ k. f (suc k)) n)

  pub each_at : (f : ℕ → A) (n i : ℕ) (d : A) → i < n → get_or (each f n) i d ≡ f i
  unfolding each
  each_at f zero i d h = absurd (omega arith)
  each_at f (suc n) zero d h = refl
  each_at f (suc n) (suc i) d h = each_at (λ k. f (suc k)) n i d (le_of_suc-le-suc h)
