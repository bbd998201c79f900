-- `timed::objects::Moving::free`: the turns left lead from the objects now to those at the end. Assumes nothing.
use Rattle.timed.proofs.LoopTurns.{Leads}
use Rattle.timed.specs.Objects.{freed_at}
use Rattle.timed.proofs.objects.Moving.free.Given as goal

abbrev pub invariant-loop-d : goal.invariant-loop-d
invariant-loop-d l = Leads freed_at l.d-end l.initial.self l.d l.self
