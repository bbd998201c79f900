-- `waits::laid::keep`. Invariant: those passed that stay are laid. Assumes nothing.
use Rattle.std.proofs.Common.{◌≡◌}
use Rattle.records.specs.Runs.{each}
use Rattle.waits.specs.Area.{wait_at}
use Rattle.waits.specs.Settled.{staying, laid_from}
use Rattle.waits.proofs.Loads.{Staying}
use Rattle.waits.proofs.laid.keep.Given as goal

abbrev pub invariant-loop-i : goal.invariant-loop-i
invariant-loop-i l =
    (l.area ≡ laid_from l.initial.area 0 72 (staying l.start.0 l.end.0 (each (wait_at l.initial.area) l.i))) × Staying l.start.0 l.end.0 l.initial.area l.load l.i
