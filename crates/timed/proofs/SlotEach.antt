-- What every step of a slot keeps of an object, the slot keeps of it. Assumes nothing.
use Prim.Native.Nat.{ℕ, ◌+◌, ◌-◌, ◌*◌}
use mathlib.Core.Bool.{Bool}
use mathlib.Core.List.{List}
use lib.Dec.{eqb}
use lib.Ieee.{Float}
use lib.ListN.{get_or}
use Rattle.timed.specs.Objects.{ObjectsWork, no_source, no_track, object_moved, moved_at, moved_all, ramped, ramped_at, ramped_all, freed, freed_at, freed_all}
use Rattle.timed.specs.Holds.{with_marks, mark_settled_at, holds_settled}
use Rattle.timed.specs.Rules.{element_of, remaining_of, ramp_over, share, due, no_block, active}
use Rattle.timed.specs.Slot.{SlotWork, slot_begun, block_applied, block_turn, blocks_applied, ramp_applied, updated_sources}
use Rattle.timed.specs.State.{Timed, element_taken, timing_of, reach_of, slot_of, slot_moved, slot_at}
use Rattle.timed.specs.declared.state.Track.{Track}
use Rattle.timed.specs.declared.state.DynamicSourceState.{DynamicSourceState}
use Rattle.timed.specs.declared.objects.Moving.{Moving}
use Rattle.timed.specs.declared.slot.Timing.{Timing}
use Rattle.timed.specs.declared.slot.Reach.{Reach}
use Rattle.timed.specs.declared.slot.Slot.{Slot}
use Rattle.timed.proofs.Invariants.{times_keeps, cond_keeps, set_each}

module _ (P : ℕ → DynamicSourceState → Type 0)
    (moved : (arrived : Bool) (k : ℕ) (is : List ℕ) (i : ℕ) (s : DynamicSourceState) → P i s → P i (object_moved arrived k s is).moved.source)
    (ramps : (t : Float) (last : Bool) (k : Track) (i : ℕ) (s : DynamicSourceState) → P i s → P i (ramped t last k s))
    (frees : (k : Track) (i : ℕ) (s : DynamicSourceState) → P i s → P i (freed k s)) where
  abbrev Each : List DynamicSourceState → Type 0
  Each l = (i : ℕ) → P i (get_or l i no_source)

  moved_each : (arrived : Bool) (first n : ℕ) (m : Moving) (is : List ℕ) → Each m.sources → Each (moved_all arrived first n m is).moving.sources
  unfolding moved_all
  moved_each arrived first n m is =
      times_keeps (λ (w : ObjectsWork). Each w.moving.sources) (moved_at arrived first)
      (λ d w h.
      let s = get_or w.moving.sources d no_source in
      let k = first + 8 * d in
      set_each P w.moving.sources d (object_moved arrived k s w.infos).moved.source no_source (moved arrived k w.infos d s (h d)) h)
      n 0 (record { moving = m; infos = is })

  pub blocks_each : (w : Timing) (r : Reach) (n : ℕ) (k : SlotWork) → Each k.slot.moving.sources → Each (blocks_applied w r n k).slot.moving.sources
  unfolding blocks_applied block_applied
  blocks_each w r n k =
      times_keeps (λ (x : SlotWork). Each x.slot.moving.sources) (block_turn w r)
      (λ b x h.
      cond_keeps (λ (y : SlotWork). Each y.slot.moving.sources) (due w (get_or x.slot.schedule b no_block)) (block_applied w r b x) x
      (λ _. moved_each _ (r.first + b) r.count x.slot.moving x.infos h) (λ _. h))
      n 0 k

  ramped_each : (t : Float) (before : List Track) (n : ℕ) (m : Moving) → Each m.sources → Each (ramped_all t before n m).sources
  unfolding ramped_all
  ramped_each t before n m =
      times_keeps (λ (x : Moving). Each x.sources) (ramped_at t before)
      (λ d x h.
      let s = get_or x.sources d no_source in
      let last = (get_or before d no_track).now in
      let k = get_or x.tracks d no_track in
      set_each P x.sources d (ramped t last k s) no_source (ramps t last k d s (h d)) h)
      n 0 m

  freed_each : (n : ℕ) (m : Moving) → Each m.sources → Each (freed_all n m).sources
  unfolding freed_all
  freed_each n m =
      times_keeps (λ (x : Moving). Each x.sources) freed_at
      (λ d x h.
      let s = get_or x.sources d no_source in
      let k = get_or x.tracks d no_track in
      set_each P x.sources d (freed k s) no_source (frees k d s (h d)) h)
      n 0 m

  ramp_each : (before : List Track) (n : ℕ) (s : Slot) → Each s.moving.sources → Each (ramp_applied before n s).moving.sources
  unfolding ramp_applied
  ramp_each before n s h =
      cond_keeps (λ (x : Slot). Each x.moving.sources) (ramp_over (remaining_of s.remaining)) _ _ (λ _. freed_each n s.moving h)
      (λ _. ramped_each (share (remaining_of s.remaining)) before n s.moving h)

  slot_of_each : (w : Timing) (i : ℕ) (t : Timed) → Each t.state.sources → Each (slot_of w i t).state.sources
  unfolding slot_of updated_sources
  slot_of_each w i t h =
      let s = t.state in
      let e = element_of s i in
      let r = reach_of s i in
      let k = slot_begun e s.gains s.sources t.infos in
      ramp_each e.tracks r.count (blocks_applied w r e.blocks k).slot (blocks_each w r e.blocks k h)

  pub moved_slot_each : (start : ℕ) (t : Timed) → Each t.state.sources → Each (slot_moved start t).state.sources
  unfolding slot_moved
  moved_slot_each start t h =
      let s = t.state in
      let w = timing_of start s in
      let i = element_taken w s.states s.elements in
      let Has : Timed → Type 0 = λ x. Each x.state.sources in
      cond_keeps Has (eqb s.elements 0) t _ (λ _. h) (λ _. cond_keeps Has (active (element_of s i)) (slot_of w i t) t (λ _. slot_of_each w i t h) (λ _. h))

  pub slot_each : ((i : ℕ) (s : DynamicSourceState) → P i s → P i (with_marks s.wanted s.wanted s)) → (start : ℕ) (t : Timed) → Each t.state.sources → Each (slot_at start t).state.sources
  unfolding slot_at holds_settled
  slot_each settles start t h =
      times_keeps Each mark_settled_at
      (λ d l g.
      let o = get_or l d no_source in
      set_each P l d (with_marks o.wanted o.wanted o) no_source (settles d o (g d)) g)
      ((slot_moved start t).state.objects - (slot_moved start t).state.isf) 0 (slot_moved start t).state.sources (moved_slot_each start t h)
