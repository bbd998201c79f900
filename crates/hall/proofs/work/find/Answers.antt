-- `work::find`: the hall that is searched is the block's.
use mathlib.Core.Path.{refl, sym, ap, ◌∙◌}
use lib.Ieee.{of_bits, neg, round}
use Rattle.std.proofs.Common.{lit≤}
use Rattle.corners.specs.Choice as choice
use Rattle.panning.specs.Speakers.{positions714}
use Rattle.panning.specs.Setup.{Setup, present, divisor_in}
use Rattle.panning.proofs.Setup.{code_table, code_places}
use Rattle.finding.specs.Search.{search}
use Rattle.store.proofs.Theorems.{as_714}
use Rattle.hall.proofs.Known.{valid_hall}
use Rattle.hall.proofs.work.find.Goals as goal

pub invariant_of-find : goal.invariant_of-find
unfolding of_bits neg round positions714 present divisor_in choice.every_of
invariant_of-find c = record { known = lit≤ tt; marked = refl; divided = refl; placed = code_places; table = code_table; found = (refl, refl) }

pub returns-then-is_714 : goal.returns-then-is_714
unfolding of_bits neg round positions714
returns-then-is_714 c =
    c.find.ensures ∙ ap (λ (h : Setup). search h c.args.mask) (sym (as_714 c.args.state.now (sym c.is_714.ensures ∙ c.if-is_714.true)))

pub hall-requires : goal.hall-requires
hall-requires c = valid_hall c.args.state.now c.requires
