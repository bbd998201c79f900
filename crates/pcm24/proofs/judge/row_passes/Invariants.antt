-- `row_passes`: after i samples it holds what the first i pass.
use Rattle.std.proofs.Common.{◌≡◌}
use Rattle.pcm24.specs.Refused.{row_writable}
use Rattle.pcm24.proofs.judge.row_passes.Given as goal

abbrev pub invariant-loop-i : goal.invariant-loop-i
invariant-loop-i l = (l.pass ≡ row_writable l.out l.at l.i)
