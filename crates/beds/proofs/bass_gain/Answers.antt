-- `bass_gain`: the constant of the source is the f32 nearest to 0.31622776.
use Rattle.std.proofs.Common.{refl}
use lib.Ieee.{of_bits, round}
use Rattle.beds.proofs.bass_gain.Goals as goal

pub returns : goal.returns
unfolding round of_bits
returns c = refl
