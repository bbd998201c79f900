-- `panning::table::all_inside`: what is left of the channels from k on. Assumes nothing.
use Rattle.corners.specs.Axes.{place_among}
use Rattle.panning.proofs.Judged.{InsideFrom}
use Rattle.panning.proofs.table.all_inside.Given as goal

abbrev pub invariant-loop-k : goal.invariant-loop-k
invariant-loop-k l = InsideFrom (place_among l.places) l.k
