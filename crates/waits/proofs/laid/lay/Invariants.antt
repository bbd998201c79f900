-- `waits::laid::lay`. Invariant: so many records are laid. Assumes nothing.
use Rattle.std.proofs.Common.{◌≡◌, ◌*◌, take}
use Rattle.waits.specs.Settled.{with_run}
use Rattle.waits.proofs.laid.lay.Given as goal

abbrev pub invariant-loop-k : goal.invariant-loop-k
invariant-loop-k l = l.area ≡ with_run l.initial.area l.to (take (40 * l.k) l.records)
