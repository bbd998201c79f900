-- `limiter::places::load_samples` meets its contract. Assumes nothing.
use mathlib.Core.Path.{◌≡◌}
use lib.ListN.{take}
use Rattle.limiter.specs.ChannelPlaces.{floats_at}
use Rattle.limiter.proofs.places.load_samples.Given as goal

abbrev pub invariant-loop-i : goal.invariant-loop-i
invariant-loop-i l = take l.i l.samples ≡ floats_at l.places l.at l.i
