-- "Updates are taken in stable order of sample offset. One at or past the frame's end is dropped": the updates at an offset. `Stable` (specs/StableOrder) is the whole
-- sentence, which proofs/Order shows of the rules. Assumes nothing.
use Rattle.std.specs.Prelude.{ℕ, cond, List, [], ◌∷◌, eqb}

module _ {A : Type 0} (offset : A → ℕ) where
  -- those at t, in the order sent
  abbrev pub at_offset : ℕ → List A → List A
  at_offset t [] = []
  at_offset t (u ∷ us) = cond (eqb (offset u) t) (u ∷ at_offset t us) (at_offset t us)
