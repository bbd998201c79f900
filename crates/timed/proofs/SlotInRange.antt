-- A slot keeps the ranges of the state. Assumes nothing.
use Prim.Native.Nat.{ℕ, ◌≤◌, ◌<◌}
use lib.Dec.{eqb}
use Rattle.timed.specs.Rules.{active}
use Rattle.timed.specs.Preconditions.{InRange, Within}
use Rattle.timed.specs.State.{Timed, no_element, element_of, element_taken, timing_of, reach_of, element_slot, slot_of, slot_moved, slot_at}
use Rattle.timed.specs.Holds.{holds_settled}
use Rattle.timed.specs.declared.state.MetadataRendererState.{MetadataRendererState}
use Rattle.timed.specs.declared.slot.Timing.{Timing}
use Rattle.timed.proofs.Invariants.{cond_keeps, set_each}
use Rattle.timed.proofs.Ramps.{sources_range, later}

slot_of_within : (p : ℕ) (w : Timing) (i : ℕ) (t : Timed) → w.start.0 ≤ p → Within p t.state → Within p (slot_of w i t).state
unfolding slot_of
slot_of_within p w i t early h =
    record {
      payload = h.payload;
      objects = h.objects;
      isf = h.isf;
      dynamic = h.dynamic;
      beds = h.beds;
      channels = h.channels;
      elements = h.elements;
      states =
          set_each (λ k e. k < 2 → InRange p e) t.state.states i (element_slot w i t).updated.element no_element
          (λ j. sources_range p w (reach_of t.state i) (element_of t.state i) t.state.gains t.state.sources t.infos early (h.states i j)) h.states;
    }

moved_within : (p start : ℕ) (t : Timed) → start ≤ p → Within p t.state → Within p (slot_moved start t).state
unfolding slot_moved
moved_within p start t early h =
    let w = timing_of start t.state in
    let i = element_taken w t.state.states t.state.elements in
    cond_keeps (λ (x : Timed). Within p x.state) (eqb t.state.elements 0) t _ (λ _. h)
    (λ _. cond_keeps (λ (x : Timed). Within p x.state) (active (element_of t.state i)) (slot_of w i t) t (λ _. slot_of_within p w i t early h) (λ _. h))

-- a slot that starts no later than the stream position p
pub slot_within : (p start : ℕ) (t : Timed) → start ≤ p → Within p t.state → Within p (slot_at start t).state
unfolding slot_at holds_settled
slot_within p start t early l =
    let h = moved_within p start t early l in
    record {
      payload = h.payload;
      objects = h.objects;
      isf = h.isf;
      dynamic = h.dynamic;
      beds = h.beds;
      channels = h.channels;
      elements = h.elements;
      states = h.states;
    }

-- time goes on
pub within_later : (p q : ℕ) (s : MetadataRendererState) → p ≤ q → Within p s → Within q s
within_later p q s l h =
    record {
      payload = h.payload;
      objects = h.objects;
      isf = h.isf;
      dynamic = h.dynamic;
      beds = h.beds;
      channels = h.channels;
      elements = h.elements;
      states = λ i j. later p q (element_of s i) l (h.states i j);
    }
