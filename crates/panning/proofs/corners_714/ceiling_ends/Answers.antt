-- `panning::corners_714::ceiling_ends` meets its contract. Assumes nothing.
use lib.Ieee.{of_bits, neg}
use Rattle.panning.specs.Speakers.{positions714, hall714}
use Rattle.panning.proofs.corners_714.ceiling_ends.Goals as goal

pub returns : goal.returns
unfolding of_bits neg hall714 positions714
returns c = cc
