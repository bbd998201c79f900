-- Above 0 it is the square root.
use mathlib.Core.Path.{sym, ◌∙◌, subst}
use lib.Dec.{T}
use lib.Ieee.{of_bits}
use Rattle.roots.proofs.Square.{sqrt_is}
use Rattle.roots.proofs.Sorts.{above}
use Rattle.roots.proofs.half_root.Goals as goal

pub returns-then-y : goal.returns-then-y
unfolding of_bits
returns-then-y c = c.sqrt.ensures.value ∙ sqrt_is c.args.y c.well_formed.0.1 ∙ sym (above c.args.y (subst T (sym c.well_formed.0.1) tt) c.if-y.true).same
