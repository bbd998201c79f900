-- `timed::objects::bed_gains`: the turns left lead from the gains now to those at the end. Assumes nothing.
use Rattle.timed.proofs.LoopTurns.{Leads}
use Rattle.timed.specs.Objects.{bed_at}
use Rattle.timed.proofs.objects.bed_gains.Given as goal

abbrev pub invariant-loop-i : goal.invariant-loop-i
invariant-loop-i l = Leads (bed_at l.infos l.first) l.count l.initial.gains l.i l.gains
