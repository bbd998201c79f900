-- Both parts of m are exact, so that their sum is rounded once, from m itself.
use Prim.Native.Nat.{◌+◌, ◌*◌, ◌/◌}
use native.Mathlib.Omega.{arith}
use lib.Ieee.{of_bits}
use Rattle.angles.proofs.Halves.{two_parts}
use Rattle.angles.proofs.series.nearest.Goals as goal

pub returns : goal.returns
unfolding of_bits
returns c = two_parts (2 * (c.args.n / 8192) + 1) (omega arith) (omega arith)
