-- `waits::area::placed`. Invariant: the places stand, the offsets passed are those in the frame. Assumes nothing.
use Rattle.waits.specs.Settled.{falls_at}
use Rattle.waits.proofs.Placing.{Placing}
use Rattle.waits.proofs.area.placed.Given as goal

abbrev pub invariant-loop-i : goal.invariant-loop-i
invariant-loop-i l = Placing l.layout (falls_at l.start.0 l.end.0 l.area) l.sent l.i
