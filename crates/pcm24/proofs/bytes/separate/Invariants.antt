-- `separate`. Invariants: the samples of four channels after four, and of the next four as many as are done. Assumes nothing.
use Rattle.std.proofs.Common.{◌*◌, get_or}
use Rattle.pcm24.specs.Interleaved.{in_rows, word_read}
use Rattle.pcm24.proofs.Separating.{Spread}
use Rattle.pcm24.proofs.bytes.separate.Given as goal

abbrev pub invariant-loop-four : goal.invariant-loop-four
invariant-loop-four l = Spread (λ k. get_or (in_rows (word_read l.source) 12 l.count) k 0) l.fn.dest l.dest l.count (4 * l.four * l.count) 0

abbrev pub invariant-loop-i : goal.invariant-loop-i
invariant-loop-i l = Spread (λ k. get_or (in_rows (word_read l.source) 12 l.count) k 0) l.fn.dest l.dest l.count (4 * l.four * l.count) l.i
