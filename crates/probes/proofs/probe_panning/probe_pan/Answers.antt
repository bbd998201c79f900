-- `probes::probe_panning::probe_pan` meets its contract: the constant is the 7.1.4 hall. Assumes nothing.
use mathlib.Core.Path.{refl}
use lib.Ieee.{of_bits, neg, round}
use Rattle.std.proofs.Common.{lit≤}
use Rattle.corners.specs.Choice as choice
use Rattle.panning.specs.Speakers.{positions714}
use Rattle.panning.specs.Setup.{present, divisor_in}
use Rattle.panning.proofs.Setup.{code_table, code_places}
use Rattle.probes.proofs.probe_panning.probe_pan.Goals as goal

pub invariant_of-pan : goal.invariant_of-pan
unfolding of_bits neg round positions714 present divisor_in choice.every_of
invariant_of-pan c = record { known = lit≤ tt; marked = refl; divided = refl; placed = code_places; table = code_table; found = (refl, refl) }

pub returns : goal.returns
unfolding of_bits neg round positions714
returns c = c.pan.ensures
