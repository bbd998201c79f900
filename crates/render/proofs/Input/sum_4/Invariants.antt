-- `sum_4`: the sums of the terms so far. Assumes nothing.
use Rattle.std.proofs.Common.{◌≡◌, ◌+◌, take}
use Rattle.render.specs.Listed.{sums_at}
use Rattle.render.proofs.Input.sum_4.Given as goal

abbrev pub invariant-loop-t : goal.invariant-loop-t
invariant-loop-t l = l.sums ≡ sums_at l.self.pcm.now l.self.span.frame (take l.t-index l.terms) (l.self.span.first + l.i) 4
