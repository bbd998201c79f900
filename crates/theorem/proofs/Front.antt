-- What stands in the front of a block stands there in the block. Assumes nothing.
use Prim.Native.Nat.{ℕ, zero, suc, ◌+◌, ◌*◌, ◌^◌, ◌≤◌, ◌<◌}
use mathlib.Core.Path.{◌≡◌, refl, ap₂}
use mathlib.Core.List.{List}
use native.Mathlib.Omega.{arith}
use Rattle.std.proofs.lemmas.List.{get_or-take}
use lib.ListN.{get_or}
use Rattle.words.specs.Words.{number, word}
use Rattle.store.specs.Layout.{size}
use Rattle.theorem.specs.Instance.{front}

-- the same bytes are the same number
number_of_bytes : (s t : List ℕ) (at n : ℕ) → ((i : ℕ) → i < n → get_or s (at + i) 0 ≡ get_or t (at + i) 0) → number s at n ≡ number t at n
unfolding number
number_of_bytes s t at zero h = refl
number_of_bytes s t at (suc n) h =
    ap₂ (λ (x b : ℕ). x + b * 256 ^ n) (number_of_bytes s t at n (λ i l. h i (omega arith))) (h n (omega arith))

pub front_word : (b : List ℕ) (at : ℕ) → at + 4 ≤ size → word (front b) at ≡ word b at
front_word b at h = number_of_bytes (front b) b at 4 (λ k j. get_or-take size b (at + k) 0 (omega arith))
