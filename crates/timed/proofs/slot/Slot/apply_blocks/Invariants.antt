-- `timed::slot::Slot::apply_blocks`: the turns left lead from the slot now to that at the end, where a block is due and where not. Assumes nothing.
use Rattle.timed.proofs.LoopTurns.{Leads}
use Rattle.timed.specs.Slot.{block_turn}
use Rattle.timed.proofs.slot.Slot.apply_blocks.Given as goal

abbrev pub invariant-loop-b : goal.invariant-loop-b
invariant-loop-b l =
    Leads (block_turn l.when l.reach) l.n (record { slot = l.initial.self; infos = l.initial.infos }) l.b (record { slot = l.self; infos = l.infos })
