-- The layout has the offsets of the updates; a list that is not laid out has none. Assumes nothing.
use Prim.Native.Nat.{ℕ}
use mathlib.Core.Path.{refl, ap, ◌∙◌}
use Rattle.records.specs.Falls.{offset_in}
use Rattle.records.specs.Laid.{update_at, count}
use Rattle.records.specs.UpdateWalk.{next_offset}
use Rattle.records.specs.LayoutAnswers.{offset_at}
use Rattle.records.proofs.Theorems.{next_same, unlaid_counts}
use Rattle.probes.proofs.probe_records.probe_next_offset.Goals as goal

pub returns-in-Some : goal.returns-in-Some
returns-in-Some c =
    let a = c.args in
    let m = a.meta.now in
    let l = c.in-Some.l in
    let g = c.in-Some.ensures in
    c.next_offset.ensures
    ∙ ap (λ (n : ℕ). next_offset (offset_at l) n a.t.0 a.end.0) g.0.counted
    ∙ next_same (offset_at l) (λ i. offset_in a.end.0 m (update_at m i)) (count m) a.t.0 a.end.0 g.1

pub returns-in-None : goal.returns-in-None
unfolding next_offset
returns-in-None c = rw (unlaid_counts c.args.meta.now c.in-None.ensures) refl
