-- `panning::coefficients` meets its contract. Assumes nothing.
use lib.Ieee.{of_bits}
use Rattle.corners.specs.Axes.{place_among}
use Rattle.panning.proofs.Answers.{coefficients_are}
use Rattle.panning.proofs.coefficients.Goals as goal

pub returns : goal.returns
unfolding of_bits
returns c = let a = c.args in coefficients_are (place_among a.hall.now.places) a.c a.place a.g c.shares_at-s.ensures c.coefficients.ensures c.coefficients-2.ensures
