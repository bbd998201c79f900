-- `limiter::places::load_block` meets its contract. Assumes nothing.
use mathlib.Core.Path.{◌≡◌}
use mathlib.Core.List.{◌++◌}
use Prim.Native.Nat.{◌*◌}
use lib.ListN.{length, take, drop}
use Rattle.limiter.specs.ChannelPlaces.{overlaid, channels_at}
use Rattle.limiter.proofs.places.load_block.Given as goal

abbrev pub invariant-loop-row : goal.invariant-loop-row
invariant-loop-row l = (length l.block ≡ 768)
    × (take (64 * l.row) l.block ++ overlaid (channels_at (drop l.row l.taken.present.now) l.taken.samples l.places (4 * (64 * l.row))) (drop (64 * l.row) l.block)
    ≡ overlaid (channels_at l.taken.present.now l.taken.samples l.places 0) l.initial.block)
