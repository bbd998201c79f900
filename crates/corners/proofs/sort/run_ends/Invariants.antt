-- `run_ends`: the ends from j on.
use Rattle.std.proofs.Common.{◌≡◌, ℕ, ◌≤◌, ◌<◌, length}
use Rattle.corners.specs.Axes.{along, index_at}
use Rattle.corners.specs.SpeakerOrder.{run_end}
use Rattle.corners.proofs.sort.run_ends.Given as goal

abbrev pub invariant-loop-j : goal.invariant-loop-j
invariant-loop-j l = (length l.ends ≡ 12)
    × ((i : ℕ) → l.j ≤ i → i < l.n → index_at l.ends i ≡ run_end (along l.axis l.speakers) (index_at l.bound) (index_at l.ends) i)
