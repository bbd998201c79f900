-- `start_slot`: the slot, through the lent part. Assumes nothing.
use mathlib.Core.Path.{refl}
use borrow.Author.Rules.{rules}
use Rattle.rendering.proofs.Begins.{slot_starts}
use Rattle.rendering.proofs.Rendering.start_slot.Goals as goal

pub update_timeslot-after-requires : goal.update_timeslot-after-requires
update_timeslot-after-requires c = search rules

pub returns : goal.returns
returns c =
    let s = c.args in
    let u = c.update_timeslot-after in
    let r = c.with_state-self in
    record {
      next = slot_starts s.self.renderer s.state.now u.result u.new.infos r.result c.told-state
          (search (rules, u.auto)) c.requires.1 u.ensures r.ensures;
      ready = refl;
      meters = refl;
    }
