-- `limiter::max_abs_slice` meets its contract: the sixteen maxima and what is left have the bounds of the whole. Assumes nothing.
use Prim.Native.Nat.{◌*◌}
use lib.ListN.{drop}
use Rattle.limiter.proofs.Lanes.{Lanes}
use Rattle.limiter.proofs.max_abs_slice.Given as goal

abbrev pub invariant-loop-x : goal.invariant-loop-x
invariant-loop-x l = Lanes l.lanes (drop (16 * l.x-index) l.samples) l.samples
