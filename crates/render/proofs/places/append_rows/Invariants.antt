-- `append_rows`: the channels that are done.
use mathlib.Core.Path.{◌≡◌}
use Prim.Native.Nat.{◌*◌}
use lib.ListN.{take}
use Rattle.limiter.specs.ChannelPlaces.{channels, with_channels}
use Rattle.render.proofs.places.append_rows.Given as goal

abbrev pub invariant-loop-c : goal.invariant-loop-c
invariant-loop-c l = l.places ≡ with_channels (channels (take l.c l.present) l.k l.rows) 256 (4 * l.pending) l.initial.places
