-- `low` - 1 / 2 stays below the root, and `high` - 1 / 2 does not.
use Prim.Native.Nat.{◌-◌, ◌≤◌, ◌<◌}
use Rattle.roots.specs.Whole.{top_of}
use Rattle.roots.proofs.nearest.by_halves.Given as goal

abbrev pub invariant-loop-high : goal.invariant-loop-high
invariant-loop-high l = (8388608 ≤ l.low) × (l.low < l.high) × (l.high ≤ 16777217) × (top_of l.low < l.n) × (l.n ≤ top_of l.high)

abbrev pub decreases-loop-high : goal.decreases-loop-high
decreases-loop-high l = l.high - l.low
