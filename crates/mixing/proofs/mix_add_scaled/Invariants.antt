-- `mix_add_scaled`: after k samples the output is the first k mixed in.
use Rattle.std.proofs.Common.{◌≡◌, take}
use Rattle.mixing.specs.Mixing.{mixed}
use Rattle.mixing.proofs.mix_add_scaled.Given as goal

abbrev pub invariant-loop-k : goal.invariant-loop-k
invariant-loop-k l = (l.output ≡ mixed (take l.k l.input) l.gain l.initial.output)
