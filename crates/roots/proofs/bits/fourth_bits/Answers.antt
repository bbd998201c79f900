use borrow.Author.Rules.{rules}
use Rattle.roots.proofs.Fourths.{fourth_bits}
use Rattle.roots.proofs.bits.fourth_bits.Goals as goal

pub returns : goal.returns
returns c = let rest = c.fourth_rest.ensures in (search rules, fourth_bits _ _ _ _ _ c.parts-m.ensures rest.0 rest.1 rest.2 c.nearest_whole-r.ensures)
