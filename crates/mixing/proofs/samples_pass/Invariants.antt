-- `samples_pass`: after i words it holds what the first i pass.
use Rattle.std.proofs.Common.{◌≡◌}
use Rattle.mixing.specs.FrameSamples.{all_pass}
use Rattle.mixing.proofs.samples_pass.Given as goal

abbrev pub invariant-loop-i : goal.invariant-loop-i
invariant-loop-i l = (l.pass ≡ all_pass l.pcm l.at l.i)
