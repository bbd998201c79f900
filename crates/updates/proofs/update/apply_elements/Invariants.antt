-- `updates::update::apply_elements`: the turns left lead from elements and infos now to those at the end; `place` is the record of element e. Assumes nothing.
use mathlib.Core.Path.{◌≡◌}
use Rattle.fields.specs.Update.{elements}
use Rattle.timed.proofs.Theorems.{Leads}
use Rattle.records.specs.Laid.{element_at}
use Rattle.updates.specs.Said.{update_of}
use Rattle.updates.specs.Applied.{element_given}
use Rattle.updates.proofs.update.apply_elements.Given as goal

abbrev pub invariant-loop-e : goal.invariant-loop-e
invariant-loop-e l =
    let m = l.said.record.meta.now in
    let u = l.said.record.place in
    (l.place ≡ element_at m u l.e)
    × Leads (element_given l.same (update_of m u)) (elements m u) (record { states = l.initial.next; infos = l.initial.infos }) l.e (record { states = l.next; infos = l.infos })
