-- `waits::laid::add`. Invariant: the own ones passed that wait are laid behind those of the load. Assumes nothing.
use Rattle.std.proofs.Common.{◌≡◌, ◌+◌, length}
use Rattle.waits.specs.Settled.{coming, all_records, laid_from}
use Rattle.waits.proofs.laid.add.Given as goal

abbrev pub invariant-loop-i : goal.invariant-loop-i
invariant-loop-i l =
    (l.area ≡ laid_from l.initial.area l.fn.at.count (72 + l.fn.at.bytes) (coming l.start.0 l.end.0 l.own.records.now l.i 0))
    × (l.load.count ≡ l.fn.at.count + length (coming l.start.0 l.end.0 l.own.records.now l.i 0))
    × (l.load.bytes ≡ l.fn.at.bytes + length (all_records (coming l.start.0 l.end.0 l.own.records.now l.i 0)))
