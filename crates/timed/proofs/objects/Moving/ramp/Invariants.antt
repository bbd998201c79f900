-- `timed::objects::Moving::ramp`: the turns left lead from the objects now to those at the end. Assumes nothing.
use Rattle.timed.proofs.LoopTurns.{Leads}
use Rattle.timed.specs.Objects.{ramped_at}
use Rattle.timed.proofs.objects.Moving.ramp.Given as goal

abbrev pub invariant-loop-d : goal.invariant-loop-d
invariant-loop-d l = Leads (ramped_at l.t l.before) l.count l.initial.self l.d l.self
