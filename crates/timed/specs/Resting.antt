-- A reader may skip this file: the slots that change nothing, which the code asks for before it takes a slot (`slot_rests`). Assumes nothing.
use Rattle.std.specs.Prelude.{ℕ, zero, suc, ◌-◌, Bool, true, not, ◌&&◌, ◌||◌, List, eqb, get_or}
use Rattle.timed.specs.Rules.{no_block, element_of, remaining_of, ramp_over, due, active}
use Rattle.timed.specs.State.{element_taken, timing_of}
use Rattle.timed.specs.Holds.{all_settled}
use Rattle.timed.specs.declared.state.BlockState.{BlockState}
use Rattle.timed.specs.declared.state.ElementRendererState.{ElementRendererState}
use Rattle.timed.specs.declared.state.MetadataRendererState.{MetadataRendererState}
use Rattle.timed.specs.declared.slot.Timing.{Timing}

-- none of the first n blocks is due
unfoldable pub none_due : Timing → List BlockState → ℕ → Bool
none_due w bs zero = true
none_due w bs (suc n) = none_due w bs n && not (due w (get_or bs n no_block))

-- no ramp remains, and no block is due
unfoldable pub resting : Timing → ElementRendererState → Bool
resting w e = ramp_over (remaining_of e.remaining) && none_due w e.schedule e.blocks

-- the slot that starts there takes no element, or one that does nothing, or one that rests; and no hold or release waits for it
unfoldable pub rests_at : ℕ → MetadataRendererState → Bool
unfolding all_settled
rests_at start s =
    let w = timing_of start s in
    let e = element_of s (element_taken w s.states s.elements) in
    all_settled s.sources (s.objects - s.isf) && (eqb s.elements 0 || not (active e) || resting w e)
