-- `updates::element::Element::put_object`: the turns left lead from the infos now to those at the end. Assumes nothing.
use Prim.Native.Nat.{◌+◌, ◌*◌}
use lib.Dec.{ltb}
use Rattle.fields.specs.Block.{blocks}
use Rattle.timed.proofs.Theorems.{Leads}
use Rattle.timed.specs.InfoSizes.{most_blocks}
use Rattle.updates.specs.Stored.{info_given}
use Rattle.updates.specs.Said.{element_said}
use Rattle.updates.proofs.element.Element.put_object.Given as goal

abbrev pub invariant-loop-b : goal.invariant-loop-b
invariant-loop-b l =
    let s = l.self in
    let r = s.record in
    Leads (info_given l.fresh (ltb l.o s.counts.isf) (element_said r.meta.now r.place) (s.first + most_blocks * l.o) l.o) (blocks r.meta.now r.place) l.initial.infos l.b l.infos
