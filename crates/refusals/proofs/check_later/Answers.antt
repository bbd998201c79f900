-- `check_later`: the present shape is the state's.
use mathlib.Core.Path.{◌≡◌, refl, ap, ◌∙◌}
use mathlib.Core.List.{◌++◌}
use Rattle.rules.specs.Refusals.{later}
use Rattle.timed.specs.declared.state.MetadataRendererState.{MetadataRendererState}
use Rattle.theorem.specs.Instance.{shape_of}
use Rattle.refusals.specs.PresentShape.{told_by, present_shape, IsPresent}
use Rattle.refusals.specs.declared.present.Present.{Present}
use Rattle.refusals.proofs.check_later.Goals as goal

shown : (s : MetadataRendererState) (p : Present) → IsPresent s p → present_shape p ≡ shape_of s
shown s p e = rw (e.started, e.objects, e.beds, e.codes) refl

pub returns : goal.returns
returns c =
    let a = c.args in
    c.check.ensures
    ∙ ap (later (told_by a.kept.now ++ told_by a.frame.metadata) a.frame.n.objects a.frame.codes.list.now a.frame.n.samples a.frame.n.rate a.s.rate)
    (shown a.s.state c.present_of.result c.present_of.ensures)
