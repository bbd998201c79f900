-- `ready`: the text has grown by the lines of the first i samples. Assumes nothing.
use Prim.Native.Nat.{◌+◌, ◌*◌}
use mathlib.Core.Path.{◌≡◌}
use mathlib.Core.List.{◌++◌}
use lib.ListN.{length}
use Rattle.listing.specs.Text.{lines_of}
use Rattle.listing.proofs.ready.Given as goal

abbrev pub invariant-loop-i : goal.invariant-loop-i
invariant-loop-i l = (l.text ≡ l.initial.text ++ lines_of l.out l.i) × (length l.text ≡ length l.initial.text + 108 * l.i)
