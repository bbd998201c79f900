-- `sum_row`: 32 samples more, four more and one more. Assumes nothing.
use Prim.Native.Nat.{◌+◌, ◌*◌}
use native.Mathlib.Omega.{arith}
use Rattle.render.proofs.RowSums.{row_then, row_set}
use Rattle.render.proofs.Input.sum_row.Goals as goal

pub loop-s-preserved : goal.loop-s-preserved
loop-s-preserved c =
    let a = c.args in
    row_then a.self.pcm.now a.self.span.frame a.terms.now a.self.span.first a.row.now c.loop-s.row (32 * c.loop-s.s) c.loop-s.invariant
    32 (32 * (c.loop-s.s + 1)) _ _ (omega arith) (omega arith) c.sum_32.ensures

pub loop-s-2-preserved : goal.loop-s-2-preserved
loop-s-2-preserved c =
    let a = c.args in
    row_then a.self.pcm.now a.self.span.frame a.terms.now a.self.span.first a.row.now c.loop-s-2.row (4 * c.loop-s-2.s) c.loop-s-2.invariant
    4 (4 * (c.loop-s-2.s + 1)) _ _ (omega arith) (omega arith) c.sum_4.ensures

pub loop-i-preserved : goal.loop-i-preserved
loop-i-preserved c =
    let a = c.args in
    row_set a.self.pcm.now a.self.span.frame a.terms.now a.self.span.first a.row.now c.loop-i.row c.loop-i.i c.loop-i.invariant c.sum_1.result (omega arith) c.sum_1.ensures
