-- `panning::sounds::row_bits` meets its contract. Assumes nothing.
use mathlib.Core.Bool.{true, false}
use mathlib.Core.List.{[], ◌∷◌}
use lib.Ieee.{of_bits}
use Rattle.panning.specs.Terms.{term, part, weighted, paired}
use Rattle.panning.proofs.SoundingBits.{added, beside}
use Rattle.panning.proofs.sounds.row_bits.Goals as goal

pub returns-clause-is : goal.returns-clause-is
unfolding of_bits paired
returns-clause-is c =
    let a = c.args in
    added c.side_bit.ensures.is c.side_bit-2.ensures.is
    (beside (term a.row.low (weighted a.w (part false a.right)) ∷ []) (term a.row.high (weighted a.w (part true a.right)) ∷ []))
