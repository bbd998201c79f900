-- `drain`: the flush of the rules, saved.
use mathlib.Core.Path.{ap, ◌∙◌}
use Rattle.limiter.specs.Meters.{shown}
use Rattle.hall.proofs.Done.{can_give, flushed_worked}
use Rattle.hall.proofs.Known.{valid_hall}
use Rattle.hall.proofs.work.drain.Goals as goal

pub drain-last-requires : goal.drain-last-requires
drain-last-requires c =
    let a = c.args in
    let w = c.requires in
    (can_give a.state.now a.s w.loaded.small c.fits-state w.loaded.valid a.out.now a.stride w.room, valid_hall a.state.now w.loaded.valid)

pub returns : goal.returns
returns c =
    let a = c.args in
    let w = c.requires in
    let d = c.drain-last.ensures in
    flushed_worked a.state.now a.s w.loaded.small
    c.fits-state
    w.loaded.valid a.out.now a.stride w.room
    c.drain-last.result.renderer c.shown.result d.next (c.shown.ensures ∙ ap shown d.meters) c.drain-last.result.ready
    c.save.new.state c.drain-last.new.out d.ready
    c.save.ensures.1 d.given
