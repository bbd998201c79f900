-- `heard`: how many terms one coefficient gives.
use mathlib.Core.Path.{sym}
use lib.Ieee.{of_bits}
use Rattle.render.proofs.FedTerms.{silent_none, heard_one}
use Rattle.render.proofs.lists.heard.Goals as goal

pub returns-then-gain : goal.returns-then-gain
unfolding of_bits
returns-then-gain c = sym (silent_none 0 c.args.gain c.if-gain.true)

pub returns-else-gain : goal.returns-else-gain
unfolding of_bits
returns-else-gain c = sym (heard_one 0 c.args.gain c.if-gain.false)
