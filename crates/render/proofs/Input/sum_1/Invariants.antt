-- `sum_1`: the sum of the terms so far. Assumes nothing.
use Rattle.std.proofs.Common.{◌≡◌, ◌+◌, take}
use Rattle.render.specs.Listed.{sum_at}
use Rattle.render.proofs.Input.sum_1.Given as goal

abbrev pub invariant-loop-t : goal.invariant-loop-t
invariant-loop-t l = l.sum ≡ sum_at l.self.pcm.now l.self.span.frame (take l.t-index l.terms) (l.self.span.first + l.i)
