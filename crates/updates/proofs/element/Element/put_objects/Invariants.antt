-- `updates::element::Element::put_objects`: the turns left lead from the infos now to those at the end. Assumes nothing.
use Rattle.timed.proofs.Theorems.{Leads}
use Rattle.updates.specs.Said.{element_said}
use Rattle.updates.specs.Stored.{object_given}
use Rattle.updates.proofs.element.Element.put_objects.Given as goal

abbrev pub invariant-loop-o : goal.invariant-loop-o
invariant-loop-o l =
    let s = l.self in
    Leads (object_given l.fresh s.counts.isf (element_said s.record.meta.now s.record.place) s.first) s.counts.objects l.initial.infos l.o l.infos
