-- `read_row`: after i samples the row starts with them. Assumes nothing.
use Rattle.std.proofs.Common.{◌≡◌, ◌++◌, drop}
use Rattle.mixing.specs.FrameSamples.{samples}
use Rattle.mixing.proofs.read_row.Given as goal

abbrev pub invariant-loop-i : goal.invariant-loop-i
invariant-loop-i l = (l.row ≡ samples l.pcm l.at l.i ++ drop l.i l.initial.row)
