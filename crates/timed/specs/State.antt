-- A slot of the whole state: `update_timeslot`. Assumes nothing.
use Rattle.std.specs.Prelude.{ℕ, zero, suc, ◌+◌, ◌-◌, ◌*◌, cond, List, eqb, get_or, set}
use Rattle.timed.specs.InfoSizes.{most_blocks, element_infos}
pub use Rattle.timed.specs.Rules.{no_element, element_of}
use Rattle.timed.specs.Rules.{active, begins}
pub use Rattle.timed.specs.Preconditions.{Within}
use Rattle.timed.specs.Slot.{Sourced, updated_sources}
use Rattle.timed.specs.Holds.{holds_settled}
use Rattle.timed.specs.declared.state.ElementRendererState.{ElementRendererState}
use Rattle.timed.specs.declared.state.MetadataRendererState.{MetadataRendererState}
use Rattle.timed.specs.declared.slot.Timing.{Timing}
use Rattle.timed.specs.declared.slot.Reach.{Reach}

-- the state, and the infos
pub record Timed : Type 0 where
  pub state : MetadataRendererState
  pub infos : List ℕ

-- Document 01, item 5: "take the last element whose first block offset is from 0 up to the timecode, ending the search there, else element 0"; i counts those not yet seen.
unfoldable pub element_taken : Timing → List ElementRendererState → ℕ → ℕ
unfolding begins
element_taken w es zero = 0
element_taken w es (suc i) = cond (begins w (get_or es i no_element)) i (element_taken w es i)

-- where element i finds its infos
abbrev pub reach_of : MetadataRendererState → ℕ → Reach
reach_of s i = record { beds = i * element_infos; channels = s.beds; first = i * element_infos + most_blocks * s.isf; count = s.objects - s.isf }

-- what a slot that moved beds and objects leaves
abbrev pub slot_left : MetadataRendererState → ℕ → Sourced → Timed
slot_left s i a =
    record {
      state = record {
        initialized = s.initialized;
        payload = s.payload;
        objects = s.objects;
        isf = s.isf;
        beds = s.beds;
        elements = s.elements;
        codes = s.codes;
        gains = a.updated.gains;
        states = set s.states i a.updated.element;
        sources = a.updated.sources;
      };
      infos = a.infos;
    }

-- a slot of element i: what it makes of the element, the beds, the objects and the infos, and the state after it
abbrev pub element_slot : Timing → ℕ → Timed → Sourced
element_slot w i t = updated_sources w (reach_of t.state i) (element_of t.state i) t.state.gains t.state.sources t.infos

unfoldable pub slot_of : Timing → ℕ → Timed → Timed
unfolding updated_sources
slot_of w i t = slot_left t.state i (element_slot w i t)

-- "The timecode is the slot's start less the last applied update's stream position."
abbrev pub timing_of : ℕ → MetadataRendererState → Timing
timing_of start s = record { start = record { 0 = start }; payload = s.payload }

-- "At the start of each 64-sample slot, take the last element .. An element with no blocks, or a first offset below 0, does nothing."
unfoldable pub slot_moved : ℕ → Timed → Timed
unfolding element_taken slot_of active
slot_moved start t =
    let w = timing_of start t.state in
    let i = element_taken w t.state.states t.state.elements in
    cond (eqb t.state.elements 0) t (cond (active (element_of t.state i)) (slot_of w i t) t)

-- R-11, "takes effect at the next slot", whether it takes an element or not: from its end on, the holds that were asked for are those in effect
unfoldable pub slot_at : ℕ → Timed → Timed
unfolding slot_moved holds_settled
slot_at start t = let m = slot_moved start t in record { state = holds_settled m.state; infos = m.infos }
