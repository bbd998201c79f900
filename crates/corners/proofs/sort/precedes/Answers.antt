-- `precedes`: the order of the triples is that of the speakers.
use mathlib.Core.Path.{◌∙◌}
use Rattle.corners.proofs.Triples.{precedes_is}
use Rattle.corners.proofs.sort.precedes.Goals as goal

pub returns : goal.returns
returns c = c.lt.ensures ∙ precedes_is c.args.v c.args.w
