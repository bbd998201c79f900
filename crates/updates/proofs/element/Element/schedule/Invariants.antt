-- `updates::element::Element::schedule`: the turns left lead from the schedule now to that at the end. Assumes nothing.
use Rattle.fields.specs.Block.{blocks}
use Rattle.timed.proofs.Theorems.{Leads}
use Rattle.updates.specs.Said.{element_said}
use Rattle.updates.specs.Applied.{block_given}
use Rattle.updates.proofs.element.Element.schedule.Given as goal

abbrev pub invariant-loop-b : goal.invariant-loop-b
invariant-loop-b l =
    let r = l.self.record in
    Leads (block_given (element_said r.meta.now r.place)) (blocks r.meta.now r.place) l.initial.next l.b l.next
