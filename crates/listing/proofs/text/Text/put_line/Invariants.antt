-- `put_line`: the text has grown by the cells of the first c channels. Assumes nothing.
use Prim.Native.Nat.{◌+◌, ◌*◌}
use mathlib.Core.Path.{◌≡◌}
use mathlib.Core.List.{◌++◌}
use lib.ListN.{length}
use Rattle.listing.specs.Line.{cells}
use Rattle.listing.proofs.text.Text.put_line.Given as goal

abbrev pub invariant-loop-c : goal.invariant-loop-c
invariant-loop-c l = (l.self ≡ l.initial.self ++ cells l.out l.i l.c) × (length l.self ≡ length l.initial.self + 9 * l.c)
