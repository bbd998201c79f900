-- `limiter::places::store_block` meets its contract. Assumes nothing.
use mathlib.Core.Path.{◌≡◌}
use lib.ListN.{take}
use Rattle.limiter.specs.Limiter.{scaled_block}
use Rattle.limiter.specs.ChannelPlaces.{channels, with_channels}
use Rattle.limiter.proofs.places.store_block.Given as goal

abbrev pub invariant-loop-c : goal.invariant-loop-c
invariant-loop-c l = l.out ≡ with_channels (scaled_block l.gain (channels (take l.c l.taken.present.now) l.taken.samples l.block)) l.step l.to l.initial.out
