-- `timed::state::MetadataRendererState::settle_holds`: the turns left lead from the objects now to those at the end. Assumes nothing.
use Rattle.timed.proofs.LoopTurns.{Leads}
use Rattle.timed.specs.Holds.{mark_settled_at}
use Rattle.timed.proofs.state.MetadataRendererState.settle_holds.Given as goal

abbrev pub invariant-loop-d : goal.invariant-loop-d
invariant-loop-d l = Leads mark_settled_at l.d-end l.initial.sources l.d l.sources
