-- `sum_32`: the sums of the terms so far, of sixteen samples in each vector. Assumes nothing.
use Rattle.std.proofs.Common.{◌≡◌, ◌+◌, take}
use Rattle.render.specs.Listed.{sums_at}
use Rattle.render.proofs.Input.sum_32.Given as goal

abbrev pub invariant-loop-t : goal.invariant-loop-t
invariant-loop-t l =
    (l.a ≡ sums_at l.self.pcm.now l.self.span.frame (take l.t-index l.terms) (l.self.span.first + l.i) 16)
    × (l.b ≡ sums_at l.self.pcm.now l.self.span.frame (take l.t-index l.terms) (l.self.span.first + (l.i + 16)) 16)
