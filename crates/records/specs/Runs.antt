-- Searches and lists over the numbers below n, in which document 01 is rendered. Assumes nothing.
use Rattle.std.specs.Prelude.{ℕ, zero, suc, Bool, false, ◌||◌, cond, List, [], ◌∷◌}

-- p holds of some number below n
unfoldable pub some : (ℕ → Bool) → ℕ → Bool
some p zero = false
some p (suc n) = p n || some p n

-- the last number below n of which p holds, or 0
unfoldable pub last : (ℕ → Bool) → ℕ → ℕ
last p zero = 0
last p (suc n) = cond (p n) n (last p n)

-- f 0, f 1, .., n in all
unfoldable pub each : {A : Type 0} → (ℕ → A) → ℕ → List A
each f zero = []
each f (suc n) = f 0 ∷ each (λ k. f (suc k)) n
