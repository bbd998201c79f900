-- Zeros are bytes, and any number that stands in them is 0. Assumes nothing.
use Prim.Native.Nat.{ℕ, zero, suc, ◌+◌, ◌*◌, ◌^◌, ◌<◌}
use mathlib.Core.Path.{◌≡◌, refl, sym, ap₂, ◌∙◌, subst}
use lib.Dec.{lit<}
use lib.ListN.{get_or, replicate}
use native.Mathlib.Omega.{arith}
use Rattle.words.specs.Words.{Bytes, number}

same_at : (n i : ℕ) → ◌≡◌ {A = ℕ} (get_or (replicate n 0) i 0) 0
same_at zero i = refl
same_at (suc n) zero = refl
same_at (suc n) (suc i) = same_at n i

pub zero_bytes : (n : ℕ) → Bytes (replicate n 0)
zero_bytes n i = subst (λ (x : ℕ). x < 256) (sym (same_at n i)) (lit< tt)

pub zero_number : (n at k : ℕ) → number (replicate n 0) at k ≡ 0
unfolding number
zero_number n at zero = refl
zero_number n at (suc k) = ap₂ (λ (x b : ℕ). x + b * 256 ^ k) (zero_number n at k) (same_at n (at + k)) ∙ omega arith
