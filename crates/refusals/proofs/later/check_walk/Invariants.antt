-- `later::walk_refusal`: nothing was found before t. Assumes nothing.
use Prim.Native.Nat.{◌-◌, ◌≤◌}
use mathlib.Core.Path.{◌≡◌}
use mathlib.Core.List.{◌++◌}
use Rattle.rules.specs.Refusals.{walk}
use Rattle.refusals.specs.PresentShape.{told_by, present_shape}
use Rattle.refusals.proofs.later.check_walk.Given as goal

abbrev pub invariant-loop-metadata : goal.invariant-loop-metadata
invariant-loop-metadata l =
    let f = l.fn.frame in
    let us = told_by l.fn.kept ++ told_by f.metadata in
    (l.t.0 ≤ f.n.samples)
    × (walk us f.n.objects f.codes.list.now (f.n.samples - l.t.0) l.t.0 (present_shape l.present)
    ≡ walk us f.n.objects f.codes.list.now f.n.samples 0 (present_shape l.initial.present))

abbrev pub decreases-loop-metadata : goal.decreases-loop-metadata
decreases-loop-metadata l = l.fn.frame.n.samples - l.t.0
