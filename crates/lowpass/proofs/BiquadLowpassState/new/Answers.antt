-- `BiquadLowpassState::new` meets its contract. Assumes nothing.
use mathlib.Core.Path.{ap}
use lib.Ieee.{of_bits}
use Rattle.angles.proofs.Theorems.{lowpass_only}
use Rattle.lowpass.specs.Lowpass.{unfed, new}
use Rattle.lowpass.proofs.BiquadLowpassState.new.Goals as goal

pub returns : goal.returns
unfolding new of_bits
returns c = ap unfed (lowpass_only c.requires c.coefficients-a1.ensures)
