-- A reader may skip this file: what the mixing functions leave in a row of samples. At each place that is `plus` of specs/Sums (`full_at`). Assumes nothing.
use Rattle.std.specs.Prelude.{cond, List, [], ◌∷◌, Float}
use Rattle.std.specs.Float.{binary32}
use Rattle.std.specs.Float.Ieee.{add, mul, eq}
pub use Rattle.ieee.specs.Numbers.{0·0f}

-- `mix_add_scaled`: *target += sample * gain, for as many as there are samples
abbrev pub mixed : List Float → Float → List Float → List Float
mixed [] g os = os
mixed (x ∷ xs) g [] = []
mixed (x ∷ xs) g (o ∷ os) = add binary32 o (mul binary32 x g) ∷ mixed xs g os

-- `mix_full_channel`: a gain of either zero adds nothing
unfoldable pub mixed_full : List Float → Float → List Float → List Float
mixed_full xs g os = cond (eq g 0·0f) os (mixed xs g os)
