-- `panning::corners_714::front_ends` meets its contract. Assumes nothing.
use lib.Ieee.{of_bits, neg}
use Rattle.panning.proofs.corners_714.front_ends.Goals as goal

pub returns : goal.returns
unfolding of_bits neg
returns c = cc
