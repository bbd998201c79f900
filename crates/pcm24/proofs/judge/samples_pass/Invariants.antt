-- `samples_pass`: what is left to look at decides.
use Rattle.std.proofs.Common.{◌≡◌, ◌-◌}
use Rattle.pcm24.specs.Refused.{rows_writable}
use Rattle.pcm24.proofs.judge.samples_pass.Given as goal

abbrev pub invariant-loop-c : goal.invariant-loop-c
invariant-loop-c l = (rows_writable l.out l.stride l.count 12 0 ≡ rows_writable l.out l.stride l.count (12 - l.c) l.c)
