-- `apply_sent`: the updates from i on lead from the renderer now to that at the end. Assumes nothing.
use mathlib.Core.Path.{refl, sym, ◌∙◌}
use native.Mathlib.Omega.{arith}
use borrow.Author.Tests.{eqb-true, eqb-false}
use Rattle.rules.specs.Samples.{updated}
use Rattle.theorem.specs.Instance.{hall, sent_from}
use Rattle.rendering.specs.Held.{held}
use Rattle.rendering.proofs.Begins.{goes_on, passes, ends, from_first}
use Rattle.rendering.proofs.Rendering.apply_sent.Goals as goal
use Rattle.rendering.proofs.Rendering.apply_sent.Goals.{then-eq, else-eq}

pub loop-i-init : goal.loop-i-init
loop-i-init c =
    let s = c.args in
    let d = s.metadata.now in (
      record { small = refl; hall = refl; left = from_first d s.t.0 (held s.self.renderer s.state.now) },
      refl,
      refl,
    )

pub loop-i-preserved : goal.loop-i-preserved
loop-i-preserved c =
    let s = c.args in
    let d = s.metadata.now in
    let l = c.loop-i in
    let all = updated hall s.t.0 (sent_from d) (held s.self.renderer s.state.now) in
    elim c.if-eq.branch [
      | then-eq w ↦
          let u = w.apply_one-self.ensures in
          rw (w.self-is, w.state-is) (
            goes_on d s.t.0 all s.state.now l.i l.self.renderer w.apply_one-self.result.renderer l.state w.apply_one-self.new.state _ _
                (omega (arith, c.loop-i-test.true)) (eqb-true _ _ (sym c.eq.ensures ∙ w.if-eq.true)) l.invariant.0 w.update.ensures u.next,
            u.ready ∙ l.invariant.1,
            u.meters ∙ l.invariant.2,
          )
      | else-eq w ↦ rw (w.self-is, w.state-is) (
        passes d s.t.0 all s.state.now l.i l.self.renderer l.state (omega (arith, c.loop-i-test.true))
            (eqb-false _ _ (sym c.eq.ensures ∙ w.if-eq.false)) l.invariant.0,
        l.invariant.1,
        l.invariant.2,
      )
    ]

pub returns : goal.returns
returns c =
    let s = c.args in
    let d = s.metadata.now in
    let l = c.loop-i in
    record {
      next = ends d s.t.0 (updated hall s.t.0 (sent_from d) (held s.self.renderer s.state.now)) s.state.now
          l.i l.self.renderer l.state (omega (arith, c.loop-i-test.false)) l.invariant.0;
      ready = l.invariant.1;
      meters = l.invariant.2;
    }
