-- `render`: the push of the rules, saved.
use mathlib.Core.Path.{ap, ◌∙◌}
use mathlib.Core.List.{◌++◌}
use Rattle.limiter.specs.Meters.{shown}
use Rattle.rules.specs.Samples.{pushed}
use Rattle.rules.specs.Calls.{frame_with}
use Rattle.store.specs.Layout.{decode}
use Rattle.theorem.specs.Instance.{hall, sent_from}
use Rattle.refusals.specs.FirstFound.{args_in}
use Rattle.hall.proofs.Done.{worked}
use Rattle.hall.proofs.work.render.Goals as goal

pub returns : goal.returns
returns c =
    let a = c.args in
    let d = c.render-done.ensures in
    worked (pushed hall (frame_with hall (sent_from a.kept.now ++ sent_from a.frame.metadata) (args_in a.frame a.out.now)) (decode a.state.now))
    c.render-done.result.renderer c.render-done.result.ready c.shown.result c.render-done.new.state d.next.holds d.ready
    (c.shown.ensures ∙ ap shown d.meters) a.frame.n.stride
    c.save.new.state a.out.now c.render-done.new.out c.save.ensures.1 d.given
