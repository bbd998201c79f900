-- A reader may skip this file: before a chunk: what is asked there, and the small part that updates and slots leave. Assumes nothing.
use Rattle.std.specs.Prelude.{ℕ, ◌≤◌, ◌≡◌, Bool, true, cond, ◌&&◌, List, eqb}
use Rattle.timed.specs.State.{Timed, Within}
use Rattle.timed.specs.declared.state.MetadataRendererState.{MetadataRendererState}
use Rattle.records.specs.UpdateWalk.{FirstAt}
use Rattle.records.specs.LayoutAnswers.{offset_at}
use Rattle.records.specs.declared.sent.Layout as records
use Rattle.rules.specs.Samples.{Renderer}
use Rattle.store.specs.declared.renderer.Renderer714.{Renderer714}
use Rattle.store.specs.Steps.{with_state, in_new_slot}

-- with another timed state, and in a new slot where `new`
abbrev pub restated : Bool → Renderer714 → MetadataRendererState → Renderer714
restated new s m = cond new (in_new_slot (with_state s m)) (with_state s m)

-- a slot may start: "Stream positions lie from 0 to 2^40", and the timed state is within its ranges there
pub record CanStart (r : Renderer Timed (List ℕ)) : Type 0 where
  pub within : Within 1099511627776 r.meta.state
  pub start : r.clock.start ≤ 1099511627776

-- no update is sent for offset t
abbrev pub NoneSent : records.Layout → ℕ → Type 0
NoneSent l t = FirstAt (offset_at l) l.count t 0 l.count

-- a slot starts at the present sample
abbrev pub Starts : Renderer714 → Type 0
Starts s = (s.state.initialized && eqb s.clock.phase 0) ≡ true
