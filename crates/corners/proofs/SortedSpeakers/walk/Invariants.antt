-- `SortedSpeakers::walk`: at each run the walk has found what is up to v.
use Prim.Native.Nat.{◌-◌}
use Rattle.corners.specs.Axes.{along, run_after}
use Rattle.corners.specs.EqualRuns.{Walked}
use Rattle.corners.proofs.SortedSpeakers.walk.Given as goal

abbrev pub invariant-loop-i : goal.invariant-loop-i
invariant-loop-i l = Walked (along l.axis l.self.speakers) (run_after l.axis l.self) l.a l.b l.v l.low l.i

abbrev pub decreases-loop-i : goal.decreases-loop-i
decreases-loop-i l = l.b - l.i
