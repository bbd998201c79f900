-- `present::present_after`: the updates from i on lead from the shape now to that at the end. Assumes nothing.
use Rattle.refusals.proofs.Sent.{ShapeFrom}
use Rattle.refusals.proofs.shapes.present_after.Given as goal

abbrev pub invariant-loop-i : goal.invariant-loop-i
invariant-loop-i l = ShapeFrom l.metadata l.t.0 l.initial.present l.i l.present
