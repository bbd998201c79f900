-- `frame::push::render` meets its contract: the hall that `render_in` is lent is the block's. Assumes nothing.
use mathlib.Core.Path.{refl, sym, ◌∙◌}
use lib.Ieee.{of_bits, neg, round}
use Rattle.std.proofs.Common.{lit≤}
use Rattle.corners.specs.Choice as choice
use Rattle.panning.specs.Speakers.{positions714}
use Rattle.panning.specs.Setup.{present, divisor_in}
use Rattle.panning.proofs.Setup.{code_table, code_places}
use Rattle.store.proofs.Theorems.{as_714}
use Rattle.frame.proofs.push.render.Goals as goal

pub invariant_of-render_in : goal.invariant_of-render_in
unfolding of_bits neg round positions714 present divisor_in choice.every_of
invariant_of-render_in c = record { known = lit≤ tt; marked = refl; divided = refl; placed = code_places; table = code_table; found = (refl, refl) }

pub render_in-requires : goal.render_in-requires
unfolding of_bits neg round positions714
render_in-requires c = (c.requires, sym (as_714 c.args.state.now (sym c.is_714.ensures ∙ c.if-is_714.true)))
