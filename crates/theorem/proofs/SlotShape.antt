-- What a slot leaves as it was: the counts, the codes, each element's blocks and flags, and the length of every table. Assumes nothing.
use Prim.Native.Nat.{ℕ, ◌+◌, ◌-◌, ◌*◌}
use mathlib.Core.Path.{◌≡◌, refl, ◌∙◌}
use mathlib.Core.Bool.{Bool, true}
use mathlib.Core.List.{List}
use lib.Dec.{eqb}
use lib.ListN.{length, get_or, set, length-set}
use lib.Ieee.{Float, nan}
use Rattle.std.specs.Prelude.{unwrap_or}
use Rattle.timed.specs.Infos.{gain_at}
use Rattle.timed.specs.Objects.{no_source, no_track, object_moved, moved_at, moved_all, bed_at, bed_gains, ramped, ramped_at, ramped_all, freed, freed_at, freed_all}
use Rattle.timed.specs.Objects as objects
use Rattle.timed.specs.Rules.{no_block, remaining_of, due, left_after, ramp_over, share, active}
use Rattle.timed.specs.Slot.{SlotWork, block_applied, block_turn, blocks_applied, ramp_applied, updated_sources}
use Rattle.timed.specs.State.{Timed, no_element, element_of, timing_of, reach_of, element_taken, slot_of, slot_moved, slot_at}
use Rattle.timed.specs.Turns.{times}
use Rattle.timed.specs.Holds.{with_sources, with_marks, wanting, mark_settled_at, holds_settled}
use Rattle.timed.specs.declared.state.DynamicSourceState.{DynamicSourceState}
use Rattle.timed.specs.declared.state.Track.{Track}
use Rattle.timed.specs.declared.state.ElementRendererState.{ElementRendererState}
use Rattle.timed.specs.declared.state.MetadataRendererState.{MetadataRendererState}
use Rattle.timed.specs.declared.objects.Moving.{Moving}
use Rattle.timed.specs.declared.slot.Slot.{Slot}
use Rattle.timed.specs.declared.slot.Timing.{Timing}
use Rattle.timed.specs.declared.slot.Reach.{Reach}
use Rattle.timed.proofs.Theorems.{times_keeps, cond_keeps, set_each}

-- tables as long as those of a slot
pub record Long (s t : Slot) : Type 0 where
  pub schedule : length t.schedule ≡ length s.schedule
  pub gains : length t.gains ≡ length s.gains
  pub sources : length t.moving.sources ≡ length s.moving.sources
  pub tracks : length t.moving.tracks ≡ length s.moving.tracks

pub record ElementShaped (e f : ElementRendererState) : Type 0 where
  pub blocks : f.blocks ≡ e.blocks
  pub flags : f.flags ≡ e.flags
  pub schedule : length f.schedule ≡ length e.schedule
  pub tracks : length f.tracks ≡ length e.tracks

pub record Shaped (s t : MetadataRendererState) : Type 0 where
  pub initialized : t.initialized ≡ s.initialized
  pub payload : t.payload ≡ s.payload
  pub objects : t.objects ≡ s.objects
  pub isf : t.isf ≡ s.isf
  pub beds : t.beds ≡ s.beds
  pub elements : t.elements ≡ s.elements
  pub codes : t.codes ≡ s.codes
  pub gains : length t.gains ≡ length s.gains
  pub sources : length t.sources ≡ length s.sources
  pub states : length t.states ≡ length s.states
  pub element : (e : ℕ) → ElementShaped (element_of s e) (element_of t e)

-- ---- the loops

-- objects and their tracks
record MovingLong (m n : Moving) : Type 0 where
  sources : length n.sources ≡ length m.sources
  tracks : length n.tracks ≡ length m.tracks

moved_all_long : (arrived : Bool) (first count : ℕ) (m : Moving) (is : List ℕ) → MovingLong m (moved_all arrived first count m is).moving
unfolding moved_all
moved_all_long arrived first count m is =
    times_keeps (λ (w : objects.ObjectsWork). MovingLong m w.moving) (moved_at arrived first)
    (λ d w h.
    let a = object_moved arrived (first + 8 * d) (get_or w.moving.sources d no_source) w.infos in
    record { sources = length-set w.moving.sources d a.moved.source ∙ h.sources; tracks = length-set w.moving.tracks d a.moved.track ∙ h.tracks })
    count 0 (record { moving = m; infos = is }) (record { sources = refl; tracks = refl })

ramped_all_long : (t : Float) (before : List Track) (count : ℕ) (m : Moving) → MovingLong m (ramped_all t before count m)
unfolding ramped_all
ramped_all_long t before count m =
    times_keeps (MovingLong m) (ramped_at t before)
    (λ d w h. record {
      sources = length-set w.sources d (ramped t (get_or before d no_track).now (get_or w.tracks d no_track) (get_or w.sources d no_source))
          ∙ h.sources;
      tracks = h.tracks;
    })
    count 0 m (record { sources = refl; tracks = refl })

freed_all_long : (count : ℕ) (m : Moving) → MovingLong m (freed_all count m)
unfolding freed_all
freed_all_long count m =
    times_keeps (MovingLong m) freed_at
    (λ d w h. record { sources = length-set w.sources d (freed (get_or w.tracks d no_track) (get_or w.sources d no_source)) ∙ h.sources; tracks = h.tracks })
    count 0 m (record { sources = refl; tracks = refl })

bed_gains_long : (is : List ℕ) (first count : ℕ) (gs : List Float) → length (bed_gains is first count gs) ≡ length gs
unfolding bed_gains
bed_gains_long is first count gs =
    times_keeps (λ (x : List Float). length x ≡ length gs) (bed_at is first)
    (λ i x h. length-set x i (unwrap_or (gain_at is (first + 8 * i)) (get_or x i nan)) ∙ h) count 0 gs refl

-- ---- blocks and the ramp

long_refl : (s : Slot) → Long s s
long_refl s = record { schedule = refl; gains = refl; sources = refl; tracks = refl }

long_trans : {s t u : Slot} → Long s t → Long t u → Long s u
long_trans a b = record { schedule = b.schedule ∙ a.schedule; gains = b.gains ∙ a.gains; sources = b.sources ∙ a.sources; tracks = b.tracks ∙ a.tracks }

applied_long : (w : Timing) (r : Reach) (b : ℕ) (k : SlotWork) → Long k.slot (block_applied w r b k).slot
unfolding block_applied
applied_long w r b k =
    let s = k.slot in
    let x = get_or s.schedule b no_block in
    let m = moved_all_long (ramp_over (left_after w x)) (r.first + b) r.count s.moving k.infos in
    record {
      schedule = length-set s.schedule b (record { offset = x.offset; ramp = x.ramp; used = true });
      gains = bed_gains_long k.infos (r.beds + b) r.channels s.gains;
      sources = m.sources;
      tracks = m.tracks;
    }

blocks_long : (w : Timing) (r : Reach) (n : ℕ) (k : SlotWork) → Long k.slot (blocks_applied w r n k).slot
unfolding blocks_applied
blocks_long w r n k =
    times_keeps (λ (x : SlotWork). Long k.slot x.slot) (block_turn w r)
    (λ b x h. cond_keeps (λ (y : SlotWork). Long k.slot y.slot) (due w (get_or x.slot.schedule b no_block)) (block_applied w r b x) x
    (λ _. long_trans h (applied_long w r b x)) (λ _. h))
    n 0 k (long_refl k.slot)

ramp_long : (before : List Track) (n : ℕ) (s : Slot) → Long s (ramp_applied before n s)
unfolding ramp_applied
ramp_long before n s =
    cond_keeps (Long s) (ramp_over (remaining_of s.remaining)) _ _
    (λ _. record { schedule = refl; gains = refl; sources = (freed_all_long n s.moving).sources; tracks = (freed_all_long n s.moving).tracks })
    (λ _. record {
      schedule = refl;
      gains = refl;
      sources = (ramped_all_long (share (remaining_of s.remaining)) before n s.moving).sources;
      tracks = (ramped_all_long (share (remaining_of s.remaining)) before n s.moving).tracks;
    })

-- ---- the state

-- the slot that element e starts
abbrev pub slot_on : MetadataRendererState → ElementRendererState → Slot
slot_on s e = record { schedule = e.schedule; remaining = e.remaining; gains = s.gains; moving = record { sources = s.sources; tracks = e.tracks } }

shaped_refl : (s : MetadataRendererState) → Shaped s s
shaped_refl s =
    record {
      initialized = refl;
      payload = refl;
      objects = refl;
      isf = refl;
      beds = refl;
      elements = refl;
      codes = refl;
      gains = refl;
      sources = refl;
      states = refl;
      element = λ e. record { blocks = refl; flags = refl; schedule = refl; tracks = refl };
    }

slot_of_shape : (w : Timing) (i : ℕ) (t : Timed) → Shaped t.state (slot_of w i t).state
unfolding slot_of updated_sources
slot_of_shape w i t =
    let s = t.state in
    let e = element_of s i in
    let r = reach_of s i in
    let k : SlotWork = record { slot = slot_on s e; infos = t.infos } in
    let l = long_trans (blocks_long w r e.blocks k) (ramp_long e.tracks r.count (blocks_applied w r e.blocks k).slot) in
    let f = (updated_sources w r e s.gains s.sources t.infos).updated.element in
    record {
      initialized = refl;
      payload = refl;
      objects = refl;
      isf = refl;
      beds = refl;
      elements = refl;
      codes = refl;
      gains = l.gains;
      sources = l.sources;
      states = length-set s.states i f;
      element =
          set_each (λ j x. ElementShaped (element_of s j) x) s.states i f no_element
          (record { blocks = refl; flags = refl; schedule = l.schedule; tracks = l.tracks })
          (λ j. record { blocks = refl; flags = refl; schedule = refl; tracks = refl });
    }

shaped_trans : {s t u : MetadataRendererState} → Shaped s t → Shaped t u → Shaped s u
shaped_trans a b =
    record {
      initialized = b.initialized ∙ a.initialized;
      payload = b.payload ∙ a.payload;
      objects = b.objects ∙ a.objects;
      isf = b.isf ∙ a.isf;
      beds = b.beds ∙ a.beds;
      elements = b.elements ∙ a.elements;
      codes = b.codes ∙ a.codes;
      gains = b.gains ∙ a.gains;
      sources = b.sources ∙ a.sources;
      states = b.states ∙ a.states;
      element = λ e.
          let f = a.element e in
          let g = b.element e in
          record { blocks = g.blocks ∙ f.blocks; flags = g.flags ∙ f.flags; schedule = g.schedule ∙ f.schedule; tracks = g.tracks ∙ f.tracks };
    }

moved_shape : (start : ℕ) (t : Timed) → Shaped t.state (slot_moved start t).state
unfolding slot_moved
moved_shape start t =
    let w = timing_of start t.state in
    let i = element_taken w t.state.states t.state.elements in
    let P : Timed → Type 0 = λ x. Shaped t.state x.state in
    cond_keeps P (eqb t.state.elements 0) t _ (λ _. shaped_refl t.state)
    (λ _. cond_keeps P (active (element_of t.state i)) (slot_of w i t) t (λ _. slot_of_shape w i t) (λ _. shaped_refl t.state))

-- other dynamic objects, as many
with_sources_shape : (sources : List DynamicSourceState) (s : MetadataRendererState) → length sources ≡ length s.sources → Shaped s (with_sources sources s)
with_sources_shape sources s e =
    record {
      initialized = refl;
      payload = refl;
      objects = refl;
      isf = refl;
      beds = refl;
      elements = refl;
      codes = refl;
      gains = refl;
      sources = e;
      states = refl;
      element = λ j. record { blocks = refl; flags = refl; schedule = refl; tracks = refl };
    }

settled_shape : (s : MetadataRendererState) → Shaped s (holds_settled s)
unfolding holds_settled
settled_shape s =
    with_sources_shape (times (s.objects - s.isf) 0 mark_settled_at s.sources) s
    (times_keeps (λ (l : List DynamicSourceState). length l ≡ length s.sources) mark_settled_at
    (λ d l h. let o = get_or l d no_source in length-set l d (with_marks o.wanted o.wanted o) ∙ h) (s.objects - s.isf) 0 s.sources refl)

pub shape_slot : (start : ℕ) (t : Timed) → Shaped t.state (slot_at start t).state
unfolding slot_at
shape_slot start t = shaped_trans (moved_shape start t) (settled_shape (slot_moved start t).state)

-- a hold that is asked for, or none any more
pub shape_wanting : (w : Bool) (d : ℕ) (s : MetadataRendererState) → Shaped s (wanting w d s)
unfolding wanting
shape_wanting w d s =
    let o = get_or s.sources d no_source in
    with_sources_shape (set s.sources d (with_marks w o.held o)) s (length-set s.sources d (with_marks w o.held o))
