-- `waits::load::waiting`. Invariant: the load of those that stay and the own ones passed that wait. Assumes nothing.
use Rattle.waits.proofs.Loads.{Loaded}
use Rattle.waits.proofs.load.waiting.Given as goal

abbrev pub invariant-loop-i : goal.invariant-loop-i
invariant-loop-i l = Loaded l.fn.start.0 l.fn.end.0 l.area l.own.records.now l.load l.i
