-- `panning::halls::divisor` meets its contract. Assumes nothing.
use lib.Ieee.{of_bits}
use Rattle.panning.proofs.Setup.{divisor_is}
use Rattle.panning.proofs.halls.divisor.Goals as goal

pub returns : goal.returns
unfolding of_bits
returns c = divisor_is c.args.layout c.requires
