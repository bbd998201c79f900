-- `fill`. Invariant: the bytes of the first k samples are there. Assumes nothing.
use Rattle.std.proofs.Common.{◌≡◌, ℕ, ◌+◌, ◌*◌, ◌<◌, get_or}
use Rattle.planes.proofs.bytes.fill.Given as goal

abbrev pub invariant-loop-k : goal.invariant-loop-k
invariant-loop-k l = (i : ℕ) → i < l.k → get_or l.dest i 0 ≡ get_or l.source (4 * i + l.significance) 0
