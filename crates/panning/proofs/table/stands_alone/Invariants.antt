-- `panning::table::stands_alone`: what is left of the full-range channels from j on. Assumes nothing.
use Rattle.corners.specs.Axes.{place_among}
use Rattle.panning.proofs.Judged.{AloneFrom}
use Rattle.panning.proofs.table.stands_alone.Given as goal

abbrev pub invariant-loop-j : goal.invariant-loop-j
invariant-loop-j l = AloneFrom (place_among l.places) l.k l.j
