-- `Line::of`: the channels below k that are marked, in order.
use Rattle.corners.specs.Axes.{place_among, index_at}
use Rattle.corners.specs.SpeakerOrder.{is_marked, InLine}
use Rattle.corners.proofs.sort.Line.of.Given as goal

abbrev pub invariant-loop-k : goal.invariant-loop-k
invariant-loop-k l = InLine (place_among l.places) (is_marked l.marked) l.k l.line.count (index_at l.line.channels)
