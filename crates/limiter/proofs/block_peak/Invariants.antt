-- `limiter::block_peak` meets its contract. Assumes nothing.
use mathlib.Core.Path.{◌≡◌}
use lib.ListN.{take}
use Rattle.limiter.specs.Limiter.{0·0, block_peak}
use Rattle.limiter.specs.ChannelPlaces.{channels}
use Rattle.limiter.proofs.Levels.{Level}
use Rattle.limiter.proofs.block_peak.Given as goal

abbrev pub invariant-loop-c : goal.invariant-loop-c
invariant-loop-c l = Level l.max × (l.max ≡ block_peak 0·0 (channels (take l.c l.taken.present.now) l.taken.samples l.block))
