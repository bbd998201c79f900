-- `panning::table::all_apart`: what is left of the full-range channels from k on. Assumes nothing.
use Rattle.corners.specs.Axes.{place_among}
use Rattle.panning.proofs.Judged.{ApartFrom}
use Rattle.panning.proofs.table.all_apart.Given as goal

abbrev pub invariant-loop-k : goal.invariant-loop-k
invariant-loop-k l = ApartFrom (place_among l.places) l.k
