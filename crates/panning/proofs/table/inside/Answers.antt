-- `panning::table::inside` meets its contract: what is compared is an f32. Assumes nothing.
use borrow.Author.Rules.{rules}
use lib.Dec.{T}
use lib.Ieee.{binary32, fits, of_bits, neg}
use Rattle.panning.proofs.Judged.{between_is}
use Rattle.panning.proofs.table.inside.Goals as goal

pub returns : goal.returns
unfolding of_bits neg
returns c =
    let f : T (fits binary32 c.args.x) = search (rules, c.well_formed) in
    between_is c.args.x f
