-- `limiter::max_abs_from` meets its contract. Assumes nothing.
use mathlib.Core.Path.{◌≡◌}
use lib.ListN.{drop}
use Rattle.limiter.specs.Limiter.{peak_from}
use Rattle.limiter.proofs.Levels.{Level}
use Rattle.limiter.proofs.max_abs_from.Given as goal

abbrev pub invariant-loop-x : goal.invariant-loop-x
invariant-loop-x l = Level l.m × (peak_from l.m (drop l.x-index l.samples) ≡ peak_from l.max l.samples)
