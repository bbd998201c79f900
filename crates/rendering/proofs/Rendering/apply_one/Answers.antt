-- `apply_one`: the infos go through the lent part, the clock by whether a new slot starts. Assumes nothing.
use mathlib.Core.Path.{refl, sym}
use borrow.Author.Rules.{rules}
use Rattle.updates.specs.Said.{update_of}
use Rattle.rendering.proofs.Begins.{one_applied}
use Rattle.rendering.proofs.Rendering.apply_one.Goals as goal

pub returns : goal.returns
returns c =
    let s = c.args in
    let u = c.apply_update-after in
    record {
      next = one_applied s.t.0 (update_of s.said.«record».meta.now s.said.«record».place) s.self.renderer s.state.now c.starts_slot-new.result
          u.result.0 u.new.infos c.restated.result c.told-state (search rules) (sym c.starts_slot-new.ensures) u.ensures c.restated.ensures;
      ready = refl;
      meters = refl;
    }
