-- `panning::sounds::side_bit` meets its contract. Assumes nothing.
use mathlib.Core.Path.{sym, ◌∙◌}
use lib.Ieee.{of_bits}
use native.Mathlib.Nat.{le_trans, le_of_eq}
use Rattle.panning.proofs.SoundingBits.{sounding, unweighted, rootless, bit_fits, bit_most}
use Rattle.panning.proofs.sounds.side_bit.Goals as goal
use Rattle.panning.proofs.sounds.side_bit.Goals.{else-w-via-then-w+else-has_root, else-w-via-else-w}

pub returns-then-has_root-clause-is : goal.returns-then-has_root-clause-is
unfolding of_bits
returns-then-has_root-clause-is c = let a = c.args in bit_fits a.c c.requires ∙ sym (sounding a.c a.w a.part c.if-w.true (sym c.has_root.ensures ∙ c.if-has_root.true))

pub returns-then-has_root-clause-most : goal.returns-then-has_root-clause-most
returns-then-has_root-clause-most c = le_trans (le_of_eq (bit_fits c.args.c c.requires)) (bit_most c.args.c c.requires)

pub returns-else-w-clause-is : goal.returns-else-w-clause-is
unfolding of_bits
returns-else-w-clause-is c =
    let a = c.args in
    elim c.else-w.branch [
      | else-w-via-then-w+else-has_root w ↦ sym (rootless a.c a.w a.part w.if-w.true (sym w.has_root.ensures ∙ w.if-has_root.false))
      | else-w-via-else-w w ↦ sym (unweighted a.c a.w a.part w.if-w.false)
    ]
