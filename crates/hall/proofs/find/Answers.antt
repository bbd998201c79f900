-- `find`: a block out of its ranges is refused, and any other is searched as it is.
use mathlib.Core.Path.{sym, ap, ◌∙◌}
use Rattle.rules.specs.Calls as rules
use Rattle.rules.specs.Calls.{find}
use Rattle.rules.specs.BlockCalls.{Outcome}
use Rattle.finding.specs.Search.{search}
use Rattle.hall.specs.Places.{place_of, found_at}
use native.Mathlib.Omega.{arith}
use Rattle.hall.proofs.WaysOut.{wrong, searched}
use Rattle.hall.proofs.Known.{valid_whole, valid_front}
use Rattle.hall.proofs.find.Goals as goal

pub returns-then-not-is_valid : goal.returns-then-not-is_valid
returns-then-not-is_valid c =
    let a = c.args in
    sym (ap (λ (o : Outcome). place_of o.answer) (wrong (find a.mask) a.state.now (sym c.is_valid.ensures ∙ c.if-not-is_valid.true)))

pub unwrap-block-requires : goal.unwrap-block-requires
unwrap-block-requires c =
    let l = valid_whole c.args.state.now (sym c.is_valid.ensures ∙ c.if-not-is_valid.false) in
    c.first_chunk.ensures.variant.1 (omega (arith, l))

pub find-requires : goal.find-requires
find-requires c =
    let e = (rw c.unwrap-block.ensures at c.first_chunk.ensures.cases).same in
    rw e (valid_front c.args.state.now (sym c.is_valid.ensures ∙ c.if-not-is_valid.false))

pub returns : goal.returns
returns c =
    let a = c.args in
    let e = (rw c.unwrap-block.ensures at c.first_chunk.ensures.cases).same in
    ap found_at (rw e at c.find.ensures)
    ∙ sym (ap place_of (searched a.mask a.state.now (sym c.is_valid.ensures ∙ c.if-not-is_valid.false)))
