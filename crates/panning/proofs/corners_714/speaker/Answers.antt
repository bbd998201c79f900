-- `panning::corners_714::speaker` meets its contract: the table has the speakers' places. Assumes nothing.
use lib.Ieee.{of_bits, neg}
use Rattle.panning.specs.Speakers.{positions714, hall714}
use Rattle.panning.proofs.corners_714.speaker.Goals as goal

pub returns : goal.returns
unfolding of_bits neg hall714 positions714
returns c = cc
