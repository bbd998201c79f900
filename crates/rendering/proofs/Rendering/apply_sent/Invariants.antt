-- `apply_sent`: the updates from i on lead from the renderer now to that at the end. Assumes nothing.
use mathlib.Core.Path.{◌≡◌}
use Rattle.rules.specs.Samples.{updated}
use Rattle.theorem.specs.Instance.{hall, sent_from}
use Rattle.rendering.specs.Held.{held}
use Rattle.rendering.proofs.Begins.{Standing}
use Rattle.rendering.proofs.Rendering.apply_sent.Given as goal

abbrev pub invariant-loop-i : goal.invariant-loop-i
invariant-loop-i l =
    let m = l.metadata in
    Standing m l.t.0 (updated hall l.t.0 (sent_from m) (held l.initial.self.renderer l.initial.state)) l.initial.state l.i l.self.renderer l.state
    × (l.self.ready ≡ l.initial.self.ready)
    × (l.self.meters ≡ l.initial.self.meters)
