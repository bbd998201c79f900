-- `probe_pan_in`: the built-in table by its words. Assumes nothing.
use lib.Ieee.{to_bits}
use Rattle.panning.specs.Setup as setup
use Rattle.panning.specs.Speakers as speakers
use Rattle.panning.proofs.Theorems.{built_in_right}
use Rattle.probes.proofs.probe_panning.probe_pan_in.Goals as goal

pub pan_sorted-requires : goal.pan_sorted-requires
unfolding setup.table_of speakers.positions714 to_bits
pan_sorted-requires c = built_in_right

pub returns : goal.returns
unfolding setup.table_of speakers.positions714 to_bits
returns c = c.pan_sorted.ensures
