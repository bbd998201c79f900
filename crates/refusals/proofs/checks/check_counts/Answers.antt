-- `checks::check_counts`: nothing was found before update i. Assumes nothing.
use Prim.Native.Nat.{ℕ, ◌-◌}
use mathlib.Core.Path.{refl, ap, ◌∙◌}
use native.Mathlib.Omega.{arith}
use Rattle.std.proofs.lemmas.Result.{err_from_is_err_and}
use Rattle.fields.specs.declared.update.Header.{Header}
use Rattle.refusals.specs.FirstFound.{matched}
use Rattle.refusals.proofs.Sent.{counts_stop, counts_go, counts_end}
use Rattle.refusals.proofs.checks.check_counts.Goals as goal
use Rattle.refusals.proofs.checks.check_counts.Goals.{then-eq+in_ok-check_match, else-eq}

pub returns-in_err-check_match : goal.returns-in_err-check_match
returns-in_err-check_match c =
    let s = c.args in
    let p = err_from_is_err_and c.from_residual.result c.from_residual.ensures.1 in
    let h = ap (λ (x : Header). x.objects - x.bed_or_isf) c.header.ensures in
    rw (p.1, p.2) (counts_stop s.metadata s.objects s.t.0 c.loop-i.i c.loop-i-test.true c.loop-i.invariant c.in_err-check_match.field-0.0
    (rw (← c.eq.ensures, c.if-eq.true)
    (rw (c.update.ensures.0, c.update.ensures.1) at (c.in_err-check_match.ensures ∙ ap (λ (n : ℕ). matched n s.objects) (c.dynamic.ensures ∙ h)))))

pub loop-i-preserved : goal.loop-i-preserved
loop-i-preserved c =
    let s = c.args in
    counts_go s.metadata s.objects s.t.0 c.loop-i.i c.loop-i-test.true c.loop-i.invariant
    (elim c.if-eq.branch [
      | then-eq+in_ok-check_match w ↦
          let h = ap (λ (x : Header). x.objects - x.bed_or_isf) w.header.ensures in
          rw (← c.eq.ensures, w.if-eq.true)
          (rw (w.update.ensures.0, w.update.ensures.1) at (w.in_ok-check_match.ensures ∙ ap (λ (n : ℕ). matched n s.objects) (w.dynamic.ensures ∙ h)))
      | else-eq w ↦ rw (← c.eq.ensures, w.if-eq.false) refl
    ])

pub returns : goal.returns
returns c = counts_end c.args.metadata c.args.objects c.args.t.0 c.loop-i.i (omega (arith, c.loop-i-test.false)) c.loop-i.invariant
