-- Sizes that stay below a bound, in units, and numbers that differ by little. Assumes nothing.
use Rattle.std.specs.Prelude.{ℕ, ◌+◌, ◌≤◌, List, [], ◌∷◌, Float}
use Rattle.ieee.specs.Units.{F32, mag}

-- a finite f32 of size at most b
pub record Bounded (b : ℕ) (x : Float) : Type 0 where
  pub f32 : F32 x
  pub most : mag x ≤ b

-- each of a list
abbrev pub All {ℓ} : {A : Type ℓ} → (A → Type 0) → List A → Type 0
All P [] = Unit {0}
All P (x ∷ xs) = P x × All P xs

-- x and y differ by e at most
pub record DifferBy (x y e : ℕ) : Type 0 where
  pub above : x ≤ y + e
  pub below : y ≤ x + e
