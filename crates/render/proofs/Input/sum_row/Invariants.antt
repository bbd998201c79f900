-- `sum_row`: the row starts with the sums of the samples so far, and behind them is as it was. Assumes nothing.
use Rattle.std.proofs.Common.{◌≡◌, ◌*◌, ◌++◌, drop}
use Rattle.render.specs.Listed.{sums_at}
use Rattle.render.proofs.Input.sum_row.Given as goal

abbrev pub invariant-loop-s : goal.invariant-loop-s
invariant-loop-s l = l.row ≡ sums_at l.self.pcm.now l.self.span.frame l.terms l.self.span.first (32 * l.s) ++ drop (32 * l.s) l.fn.row

abbrev pub invariant-loop-s-2 : goal.invariant-loop-s-2
invariant-loop-s-2 l = l.row ≡ sums_at l.self.pcm.now l.self.span.frame l.terms l.self.span.first (4 * l.s) ++ drop (4 * l.s) l.fn.row

abbrev pub invariant-loop-i : goal.invariant-loop-i
invariant-loop-i l = l.row ≡ sums_at l.self.pcm.now l.self.span.frame l.terms l.self.span.first l.i ++ drop l.i l.fn.row
