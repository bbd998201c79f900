-- One channel's sum at one sample. Document 01, item 6: "Sums in the source's order." Assumes nothing.
use Rattle.std.specs.Prelude.{cond, List, [], ◌∷◌, Float}
use Rattle.std.specs.Float.{binary32}
use Rattle.std.specs.Float.Ieee.{add, mul, eq}
use Rattle.ieee.specs.Numbers.{0·0f}

-- a coefficient and the sample that it scales
pub record Addend : Type 0 where
  pub coef : Float
  pub sample : Float

-- `mix_segment` passes over a coefficient of either zero
abbrev pub plus : Float → Addend → Float
plus s t = cond (eq t.coef 0·0f) s (add binary32 s (mul binary32 t.sample t.coef))

-- the terms added to s one after another
abbrev pub total : Float → List Addend → Float
total s [] = s
total s (t ∷ ts) = total (plus s t) ts
