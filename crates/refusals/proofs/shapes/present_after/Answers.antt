-- `present::present_after`: the updates from i on lead from the shape now to that at the end. Assumes nothing.
use mathlib.Core.Path.{refl}
use native.Mathlib.Omega.{arith}
use Rattle.refusals.proofs.Sent.{shape_go, shape_end}
use Rattle.refusals.proofs.shapes.present_after.Goals as goal
use Rattle.refusals.proofs.shapes.present_after.Goals.{then-eq, else-eq}

pub loop-i-preserved : goal.loop-i-preserved
loop-i-preserved c =
    let s = c.args in
    let i = c.loop-i.i in
    let q = c.loop-i.present in
    let go = shape_go s.metadata.now s.t.0 s.p i q c.if-eq.present c.loop-i-test.true c.loop-i.invariant in
    elim c.if-eq.branch [
      | then-eq w ↦ go (rw (w.present-is, ← c.eq.ensures, w.if-eq.true) (rw (w.update.ensures.0, w.update.ensures.1) at w.present_said-present.ensures))
      | else-eq w ↦ go (rw (w.present-is, ← c.eq.ensures, w.if-eq.false) refl)
    ]

pub returns : goal.returns
returns c = let l = c.loop-i in shape_end c.args.metadata.now c.args.t.0 c.args.p l.i l.present (omega (arith, c.loop-i-test.false)) l.invariant
