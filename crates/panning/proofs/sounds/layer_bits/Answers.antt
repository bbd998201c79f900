-- `panning::sounds::layer_bits` meets its contract. Assumes nothing.
use mathlib.Core.Bool.{true, false}
use mathlib.Core.List.{[], ◌∷◌}
use lib.Ieee.{of_bits, binary32, mul}
use Rattle.corners.specs.Choice.{1·0}
use Rattle.panning.specs.Terms.{part, paired}
use Rattle.panning.specs.Shares.{row_coefficients}
use Rattle.panning.proofs.SoundingBits.{added, beside}
use Rattle.panning.proofs.sounds.layer_bits.Goals as goal

pub returns-clause-is : goal.returns-clause-is
unfolding of_bits paired
returns-clause-is c =
    let a = c.args in
    added c.row_bits.ensures.is c.row_bits-2.ensures.is
    (beside (paired (a.layer.front.low ∷ a.layer.front.high ∷ []) (row_coefficients (mul binary32 (mul binary32 (part true a.s.ahead) a.part) 1·0) a.s.front))
    (paired (a.layer.rear.low ∷ a.layer.rear.high ∷ []) (row_coefficients (mul binary32 (mul binary32 (part false a.s.ahead) a.part) 1·0) a.s.rear)))
