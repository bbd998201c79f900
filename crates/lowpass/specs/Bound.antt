-- What is shown of the low-pass, at every rate that is accepted. Document 02, R-7: "the magnitude of the filter's output never exceeds twice the largest it has been fed since the
-- renderer was new or reset, where that largest lies from 2^-100 to 2^20." Sizes are whole numbers of units of 2 ^ -149. Assumes nothing.
use Rattle.std.specs.Prelude.{ℕ, ◌*◌, ◌^◌, ◌≤◌, max, List, [], ◌∷◌, Float}
use Rattle.ieee.specs.Units.{F32, mag}
pub use Rattle.ieee.specs.Bounds.{Bounded, All}
use Rattle.lowpass.specs.Lowpass.{new, after_all}

-- from 2 ^ -100 to 2 ^ 20
pub record Range (X : ℕ) : Type 0 where
  pub low : 2 ^ 49 ≤ X
  pub high : X ≤ 2 ^ 169

-- the largest size of samples; of none, 0
abbrev pub largest : List Float → ℕ
largest [] = 0
largest (x ∷ xs) = max (mag x) (largest xs)

-- A filter of the rate that was new and has been fed xs, finite samples: the last output, which is its y1, is finite and at most twice the largest of them. What was fed up to any
-- earlier moment is a list too, so this is said of every output.
abbrev pub Twice : ℕ → Type 0
Twice rate = (xs : List Float) → All F32 xs → Range (largest xs) → Bounded (2 * largest xs) (after_all (new rate) xs).y1
