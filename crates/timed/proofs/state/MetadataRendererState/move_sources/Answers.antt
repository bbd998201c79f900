-- `timed::state::MetadataRendererState::move_sources`: by whether there is an element, and whether it does anything. Assumes nothing.
use mathlib.Core.Path.{sym, ◌∙◌}
use Rattle.timed.proofs.Slots.{slot_moves}
use Rattle.timed.proofs.state.MetadataRendererState.move_sources.Goals as goal

pub returns-then-active : goal.returns-then-active
returns-then-active c =
    let s = c.args in
    let whole = (rw c.unwrap.ensures at c.as_mut_array.ensures.cases).same in
    slot_moves s.start.0 (record { state = s.self; infos = s.infos.now }) c.element_at-index.result c.if-self-eq0.false c.element_at-index.ensures.taken c.slot_of.result
    c.slot_of.new.infos
    (sym c.active.ensures ∙ c.if-active.true) (rw whole at c.slot_of.ensures)
