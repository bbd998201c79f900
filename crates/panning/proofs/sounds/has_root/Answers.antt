-- `panning::sounds::has_root` meets its contract. Assumes nothing.
use lib.Ieee.{of_bits}
use borrow.Author.Rules.{rules}
use Rattle.panning.proofs.NoRoot.{no_root}
use Rattle.panning.proofs.sounds.has_root.Goals as goal

pub returns : goal.returns
unfolding of_bits
returns c = no_root c.args.x (search (rules, c.well_formed))
