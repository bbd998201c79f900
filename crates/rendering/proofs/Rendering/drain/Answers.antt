-- `drain`: the pending samples behind none. Assumes nothing.
use mathlib.Core.Path.{subst, ◌∙◌}
use native.Mathlib.Nat.{zero-add}
use Rattle.theorem.specs.Instance.{hall}
use Rattle.rules.specs.Samples.{flushed}
use Rattle.rendering.specs.Held.{held}
use Rattle.rendering.specs.Give.{Gave}
use Rattle.rendering.specs.declared.Rendering.{Rendering}
use Rattle.rendering.proofs.Given.{behind_written}
use Rattle.rendering.proofs.Rendering.drain.Goals as goal

pub returns : goal.returns
returns c =
    let a = c.args in
    let g = subst (λ (w : Rendering). Gave w a.state.now a.stride a.out.now c.give.result c.give.new.out) c.of.ensures c.give.ensures in
    record {
      next = g.next;
      given = g.given ∙ behind_written (flushed hall (held a.s a.state.now)).given a.stride a.out.now;
      ready = g.ready ∙ zero-add a.s.pending;
      meters = g.meters;
    }
