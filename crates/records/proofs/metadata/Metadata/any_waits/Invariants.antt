-- `records::metadata::Metadata::any_waits`. Invariant: none of those passed. Assumes nothing.
use mathlib.Core.Path.{◌≡◌}
use mathlib.Core.Bool.{false}
use Rattle.records.specs.Falls.{waits_in}
use Rattle.records.specs.LayoutAnswers.{offset_at}
use Rattle.records.proofs.metadata.Metadata.any_waits.Given as goal

abbrev pub invariant-loop-i : goal.invariant-loop-i
invariant-loop-i l = waits_in (offset_at l.self.layout) l.i ≡ false
