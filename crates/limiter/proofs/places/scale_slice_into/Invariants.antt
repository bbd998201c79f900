-- `limiter::places::scale_slice_into` meets its contract: what is left to write from sample 4 j or i on still gives the whole. Assumes nothing.
use mathlib.Core.Path.{◌≡◌}
use Prim.Native.Nat.{◌*◌}
use lib.ListN.{drop}
use Rattle.limiter.specs.Limiter.{scaled}
use Rattle.limiter.specs.ChannelPlaces.{with_floats}
use Rattle.limiter.proofs.places.scale_slice_into.Given as goal

abbrev pub invariant-loop-j : goal.invariant-loop-j
invariant-loop-j l = (with_floats l.out (16 * l.j) (scaled l.gain (drop (4 * l.j) l.samples)) ≡ with_floats l.initial.out 0 (scaled l.gain l.samples))

abbrev pub invariant-loop-i : goal.invariant-loop-i
invariant-loop-i l = (with_floats l.out (4 * l.i) (scaled l.gain (drop l.i l.samples)) ≡ with_floats l.fn.out 0 (scaled l.gain l.samples))
