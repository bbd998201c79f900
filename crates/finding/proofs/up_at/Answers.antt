-- `finding::up_at` meets its contract. Assumes nothing.
use mathlib.Core.Path.{refl}
use native.Mathlib.Omega.{arith}
use lib.Ieee.{of_bits}
use Rattle.ieee.proofs.Theorems.{in_float_is}
use Rattle.finding.specs.Grid.{up_at}
use Rattle.finding.proofs.up_at.Goals as goal

pub int_to_float-result : goal.int_to_float-result
int_to_float-result c = let h = c.requires in in_float_is c.args.j (omega (arith, h))

pub returns : goal.returns
unfolding of_bits up_at
returns c = refl
