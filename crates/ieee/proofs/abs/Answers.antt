use lib.Ieee.{of_bits}
use Rattle.ieee.proofs.Functions.{abs_kept, abs_turned}
use Rattle.ieee.proofs.abs.Goals as goal

pub returns-then-x-y : goal.returns-then-x-y
unfolding of_bits
returns-then-x-y c = abs_kept c.args.x c.well_formed.0.1 c.if-x-y.true

pub returns-else-x-y : goal.returns-else-x-y
unfolding of_bits
returns-else-x-y c = abs_turned c.args.x c.well_formed.0.1 c.if-x-y.false
