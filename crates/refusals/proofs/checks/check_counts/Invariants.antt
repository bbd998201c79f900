-- `checks::check_counts`: nothing was found before update i. Assumes nothing.
use Rattle.refusals.proofs.Sent.{CountsFrom}
use Rattle.refusals.proofs.checks.check_counts.Given as goal

abbrev pub invariant-loop-i : goal.invariant-loop-i
invariant-loop-i l = CountsFrom l.metadata l.objects l.t.0 l.i
