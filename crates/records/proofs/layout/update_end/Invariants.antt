-- `records::layout::update_end` meets its contract. Assumes nothing.
use Prim.Native.Nat.{◌/◌, ◌≤◌}
use mathlib.Core.Path.{◌≡◌}
use mathlib.Core.Bool.{true}
use lib.ListN.{length}
use Rattle.fields.specs.RecordBytes.{all}
use Rattle.fields.specs.Update.{objects, elements}
use Rattle.records.specs.Laid.{is_whole_element, element_at}
use Rattle.records.proofs.layout.update_end.Given as goal

abbrev pub invariant-loop-e : goal.invariant-loop-e
invariant-loop-e l =
    (l.objects ≡ objects l.meta l.u) × (l.elements ≡ elements l.meta l.u) × (l.next ≡ element_at l.meta l.u l._e)
    × (all (λ j. is_whole_element l.meta (objects l.meta l.u) (element_at l.meta l.u j)) l._e ≡ true) × (l.next ≤ length l.meta / 40)
