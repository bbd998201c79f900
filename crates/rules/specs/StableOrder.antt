-- "Updates are taken in stable order of sample offset. One at or past the frame's end is dropped". proofs/Order shows it of the rules. Assumes nothing.
use Rattle.std.specs.Prelude.{ℕ, zero, suc, ◌≤◌, ◌<◌, ◌≡◌, List, [], ◌∷◌, ◌++◌}
use Rattle.ieee.specs.Bounds.{All}
use Rattle.rules.specs.Order.{at_offset}

module _ {A : Type 0} (offset : A → ℕ) where
  -- those of the n samples from t on, as time meets them
  abbrev pub taken : ℕ → ℕ → List A → List A
  taken zero t us = []
  taken (suc n) t us = at_offset offset t us ++ taken n (suc t) us

  -- no offset below one before it
  abbrev pub Rises : List A → Type 0
  Rises [] = Unit {0}
  Rises (u ∷ us) = All (λ (v : A). offset u ≤ offset v) us × Rises us

  -- vs is the stable order of those updates of us that are below n: by rising offset, and at each offset as they were sent
  pub record Stable (us : List A) (n : ℕ) (vs : List A) : Type 0 where
    pub rises : Rises vs
    pub same : (t : ℕ) → t < n → at_offset offset t vs ≡ at_offset offset t us
    pub below : All (λ (u : A). offset u < n) vs
