-- `next_offset`: the least offset of those passed. Assumes nothing.
use mathlib.Core.Path.{◌≡◌}
use Rattle.records.specs.UpdateWalk.{next_offset}
use Rattle.records.specs.LayoutAnswers.{offset_at}
use Rattle.records.proofs.sent.Layout.next_offset.Given as goal

abbrev pub invariant-loop-i : goal.invariant-loop-i
invariant-loop-i l = l.least.0 ≡ next_offset (offset_at l.self) l.i l.t.0 l.initial.least.0
