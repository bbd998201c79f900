-- `timed::objects::Moving::apply_block`: the turns left lead from objects and infos now to those at the end. Assumes nothing.
use mathlib.Core.Path.{◌≡◌}
use lib.ListN.{length}
use Rattle.timed.specs.InfoSizes.{all_bytes}
use Rattle.timed.proofs.LoopTurns.{Leads}
use Rattle.timed.specs.Objects.{moved_at}
use Rattle.timed.proofs.objects.Moving.apply_block.Given as goal

abbrev pub invariant-loop-d : goal.invariant-loop-d
invariant-loop-d l =
    (length l.infos ≡ all_bytes)
    × Leads (moved_at l.arrived l.first) l.count (record { moving = l.initial.self; infos = l.initial.infos }) l.d (record { moving = l.self; infos = l.infos })
