-- `Line::insert`: the channels that come after k move up one by one.
use Rattle.std.proofs.Common.{◌≡◌, ◌+◌}
use Rattle.corners.specs.Axes.{place_among}
use Rattle.corners.proofs.Writes.{Shifted}
use Rattle.corners.proofs.sort.Line.insert.Given as goal

abbrev pub invariant-loop-i : goal.invariant-loop-i
invariant-loop-i l = Shifted (place_among l.places) l.fn.self.channels l.fn.self.count l.k l.i l.self.channels × (l.self.count ≡ l.fn.self.count + 1)
