-- `records::metadata::Metadata::any_falls`. Invariant: none of those passed. Assumes nothing.
use mathlib.Core.Path.{◌≡◌}
use mathlib.Core.Bool.{false}
use Rattle.records.specs.Falls.{falls_in}
use Rattle.records.specs.LayoutAnswers.{offset_at}
use Rattle.records.proofs.metadata.Metadata.any_falls.Given as goal

abbrev pub invariant-loop-i : goal.invariant-loop-i
invariant-loop-i l = falls_in (offset_at l.self.layout) l.i ≡ false
