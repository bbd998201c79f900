-- "For each .. in order": n turns, the first with the number i. Assumes nothing.
use Rattle.std.specs.Prelude.{ℕ, zero, suc}

unfoldable pub times : {S : Type 0} → ℕ → ℕ → (ℕ → S → S) → S → S
times zero i f s = s
times (suc n) i f s = times n (suc i) f (f i s)
