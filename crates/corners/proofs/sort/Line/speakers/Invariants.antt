-- `Line::speakers`: those so far.
use Rattle.std.proofs.Common.{◌≡◌, length}
use Rattle.corners.specs.Axes.{place_among, index_at}
use Rattle.corners.specs.SpeakerOrder.{Gathered}
use Rattle.corners.proofs.sort.Line.speakers.Given as goal

abbrev pub invariant-loop-i : goal.invariant-loop-i
invariant-loop-i l = (length l.speakers ≡ 12) × Gathered (place_among l.places) (index_at l.self.channels) l.i l.speakers
