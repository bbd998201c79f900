-- `waits::laid::move_down`. Invariant: so many bytes are moved. Assumes nothing.
use Rattle.std.proofs.Common.{◌≡◌, take, drop}
use Rattle.waits.specs.Settled.{with_run}
use Rattle.waits.proofs.laid.move_down.Given as goal

abbrev pub invariant-loop-k : goal.invariant-loop-k
invariant-loop-k l = l.area ≡ with_run l.initial.area l.to (take l.k (drop l.from l.initial.area))
