-- `waits::load::staying`. Invariant: the load of those passed that stay. Assumes nothing.
use Rattle.waits.proofs.Loads.{Staying}
use Rattle.waits.proofs.load.staying.Given as goal

abbrev pub invariant-loop-i : goal.invariant-loop-i
invariant-loop-i l = Staying l.start.0 l.end.0 l.area l.load l.i
