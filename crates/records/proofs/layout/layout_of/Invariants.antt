-- `records::layout::layout_of` meets its contract. Assumes nothing.
use Prim.Native.Nat.{◌-◌}
use Rattle.records.proofs.Walked.{Walked}
use Rattle.records.proofs.layout.layout_of.Given as goal

abbrev pub invariant-loop-place : goal.invariant-loop-place
invariant-loop-place l = Walked l.end.0 l.meta l.sent l.count l.place

abbrev pub decreases-loop-place : goal.decreases-loop-place
decreases-loop-place l = 16 - l.count
