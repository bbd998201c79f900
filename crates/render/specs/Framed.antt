-- A frame's PCM, as a run takes its samples from it. Assumes nothing.
use Rattle.std.specs.Prelude.{ℕ, ◌*◌, ◌≤◌, List, length}
use Rattle.mixing.specs.SampleBits.{Plain}

-- m channels of n samples each, none of which is a NaN
pub record Framed (pcm : List ℕ) (m n : ℕ) : Type 0 where
  pub room : 4 * (m * n) ≤ length pcm
  pub plain : Plain pcm 0 (m * n)
