-- `interleave`. Invariants: the codes of four channels after four, and of the next four as many samples as are done. Assumes nothing.
use Rattle.std.proofs.Common.{◌*◌}
use Rattle.pcm24.specs.Interleaved.{code_at}
use Rattle.pcm24.proofs.Interleaving.{Put}
use Rattle.pcm24.proofs.bytes.interleave.Given as goal

abbrev pub invariant-loop-four : goal.invariant-loop-four
invariant-loop-four l = Put (code_at l.out l.stride) l.fn.dest l.dest l.count (4 * l.four) 0

abbrev pub invariant-loop-i : goal.invariant-loop-i
invariant-loop-i l = Put (code_at l.out l.stride) l.fn.dest l.dest l.count (4 * l.four) l.i
