-- The loops' facts, for a slot of the whole state: what holds of every gain (`G`) and every size (`Z`) still does, and places and targets are f32 values. Assumes nothing.
use Prim.Native.Nat.{ℕ, ◌+◌, ◌-◌, ◌<◌, ◌≤◌}
use mathlib.Core.Path.{◌≡◌, refl, sym, subst, ◌∙◌}
use mathlib.Core.Bool.{Bool, true, false}
use mathlib.Core.List.{List}
use native.Mathlib.Omega.{arith}
use borrow.Author.Tests.{ltb-true, ltb-false}
use lib.Dec.{T, eqb, ltb}
use lib.ListN.{length, get_or, length-set, get_or-eq_default}
use lib.Ieee.{Float, nan}
use Rattle.vectors.specs.Fit.{VecFits}
use Rattle.timed.specs.Objects.{no_source, no_track}
use Rattle.timed.specs.Rules.{no_block, remaining_of, due, left_after, ramp_over, share, active}
use Rattle.timed.specs.Slot.{SlotWork, block_applied, block_turn, blocks_applied, ramp_applied, updated_sources}
use Rattle.timed.specs.State.{Timed, no_element, element_of, timing_of, reach_of, element_taken, slot_of, slot_moved, slot_at}
use Rattle.timed.specs.Holds.{with_marks, wanting, mark_settled_at, holds_settled}
use Rattle.timed.specs.declared.state.DynamicSourceState.{DynamicSourceState}
use Rattle.timed.specs.declared.state.Track.{Track}
use Rattle.timed.specs.declared.state.MetadataRendererState.{MetadataRendererState}
use Rattle.timed.specs.declared.slot.Slot.{Slot}
use Rattle.timed.specs.declared.slot.Timing.{Timing}
use Rattle.timed.specs.declared.slot.Reach.{Reach}
use Rattle.timed.proofs.Theorems.{times_keeps, cond_keeps, set_each, applied_like}
use Rattle.theorem.proofs.SlotShape.{slot_on}
use Rattle.theorem.proofs.SlotObjects.{SourceHas, InfosHave, MovingHas, like_has, moved_all_has, ramped_all_has, freed_all_has, bed_gains_have}

record SlotHas (G Z : Float → Type 0) (s : Slot) : Type 0 where
  gains : (i : ℕ) → i < 18 → G (get_or s.gains i nan)
  moving : MovingHas G Z s.moving

record WorkHas (G Z : Float → Type 0) (k : SlotWork) : Type 0 where
  slot : SlotHas G Z k.slot
  infos : InfosHave G Z k.infos

pub record StateHas (G Z : Float → Type 0) (s : MetadataRendererState) : Type 0 where
  pub beds : s.beds ≤ 18
  pub objects : s.objects - s.isf ≤ 16
  pub states : length s.states ≡ 2
  pub gains : (i : ℕ) → i < 18 → G (get_or s.gains i nan)
  pub sources : (d : ℕ) → d < 16 → SourceHas G Z (get_or s.sources d no_source)
  pub targets : (e : ℕ) → e < 2 → (d : ℕ) → d < 16 → VecFits (get_or (element_of s e).tracks d no_track).future

-- ---- blocks and the ramp

module _ (G Z : Float → Type 0) where
  module _ (w : Timing) (r : Reach) (few : r.channels ≤ 18) (some : r.count ≤ 16) where
    applied_has : (b : ℕ) (k : SlotWork) → WorkHas G Z k → WorkHas G Z (block_applied w r b k)
    unfolding block_applied
    applied_has b k h =
        let s = k.slot in
        let left = left_after w (get_or s.schedule b no_block) in
        let m = moved_all_has G Z (ramp_over left) (r.first + b) r.count s.moving k.infos some h.slot.moving h.infos in
        record {
          slot = record {
            gains = bed_gains_have G Z k.infos (r.beds + b) r.channels s.gains few h.infos h.slot.gains;
            moving = m;
          };
          infos = like_has (applied_like w r b k) h.infos;
        }

    blocks_have : (n : ℕ) (k : SlotWork) → WorkHas G Z k → WorkHas G Z (blocks_applied w r n k)
    unfolding blocks_applied
    blocks_have n k h =
        times_keeps (WorkHas G Z) (block_turn w r)
        (λ b x i. cond_keeps (WorkHas G Z) (due w (get_or x.slot.schedule b no_block)) (block_applied w r b x) x (λ _. applied_has b x i) (λ _. i))
        n 0 k h

  ramp_has : (before : List Track) (n : ℕ) (s : Slot) → n ≤ 16 → SlotHas G Z s → SlotHas G Z (ramp_applied before n s)
  unfolding ramp_applied
  ramp_has before n s l h =
      cond_keeps (SlotHas G Z) (ramp_over (remaining_of s.remaining)) _ _ (λ _. record { gains = h.gains; moving = freed_all_has G Z n s.moving l h.moving })
      (λ _.
      record { gains = h.gains; moving = ramped_all_has G Z (share (remaining_of s.remaining)) before n s.moving l h.moving })

  -- ---- the state

  slot_of_has : (w : Timing) (i : ℕ) (t : Timed) → i < 2 → StateHas G Z t.state → InfosHave G Z t.infos → StateHas G Z (slot_of w i t).state
  unfolding slot_of updated_sources
  slot_of_has w i t low h is =
      let s = t.state in
      let e = element_of s i in
      let r = reach_of s i in
      let k : SlotWork = record { slot = slot_on s e; infos = t.infos } in
      let g : WorkHas G Z k = record { slot = record { gains = h.gains; moving = record { sources = h.sources; targets = h.targets i low } }; infos = is } in
      let l = ramp_has e.tracks r.count (blocks_applied w r e.blocks k).slot h.objects (blocks_have w r h.beds h.objects e.blocks k g).slot in
      let f = (updated_sources w r e s.gains s.sources t.infos).updated.element in
      record {
        beds = h.beds;
        objects = h.objects;
        states = length-set s.states i f ∙ h.states;
        gains = l.gains;
        sources = l.moving.sources;
        targets =
            set_each (λ j x. j < 2 → (d : ℕ) → d < 16 → VecFits (get_or x.tracks d no_track).future) s.states i f no_element (λ _. l.moving.targets) h.targets;
      }

-- an element that has its slot is one of the two
active_low : (s : MetadataRendererState) (i : ℕ) → length s.states ≡ 2 → active (element_of s i) ≡ true → (b : Bool) → ltb i 2 ≡ b → i < 2
unfolding active
active_low s i l a true e = ltb-true i 2 e
active_low s i l a false e =
    let g = ltb-false i 2 e in
    let n : element_of s i ≡ no_element = get_or-eq_default s.states no_element (omega arith) in
    absurd (subst T (sym (rw n at a)) tt)

moved_has : (G Z : Float → Type 0) (start : ℕ) (t : Timed) → StateHas G Z t.state → InfosHave G Z t.infos → StateHas G Z (slot_moved start t).state
unfolding slot_moved
moved_has G Z start t h is =
    let s = t.state in
    let w = timing_of start s in
    let i = element_taken w s.states s.elements in
    let P : Timed → Type 0 = λ x. StateHas G Z x.state in
    cond_keeps P (eqb s.elements 0) t _ (λ _. h)
    (λ _. cond_keeps P (active (element_of s i)) (slot_of w i t) t (λ a. slot_of_has G Z w i t (active_low s i h.states a (ltb i 2) refl) h is) (λ _. h))

-- ---- holds

module _ (G Z : Float → Type 0) where
  marks_have : (wanted held : Bool) (s : DynamicSourceState) → SourceHas G Z s → SourceHas G Z (with_marks wanted held s)
  marks_have wanted held s h = record { gain = h.gain; size = h.size; place = h.place; send = h.send }

  settled_has : (s : MetadataRendererState) → StateHas G Z s → StateHas G Z (holds_settled s)
  unfolding holds_settled
  settled_has s h =
      record {
        beds = h.beds;
        objects = h.objects;
        states = h.states;
        gains = h.gains;
        sources = times_keeps (λ (l : List DynamicSourceState). (d : ℕ) → d < 16 → SourceHas G Z (get_or l d no_source)) mark_settled_at
            (λ d l k.
            let o = get_or l d no_source in
            set_each (λ i x. i < 16 → SourceHas G Z x) l d (with_marks o.wanted o.wanted o) no_source (λ q. marks_have o.wanted o.wanted o (k d q)) k)
            (s.objects - s.isf) 0 s.sources h.sources;
        targets = h.targets;
      }

  pub slot_has : (start : ℕ) (t : Timed) → StateHas G Z t.state → InfosHave G Z t.infos → StateHas G Z (slot_at start t).state
  unfolding slot_at
  slot_has start t h is = settled_has (slot_moved start t).state (moved_has G Z start t h is)

  pub wanting_has : (w : Bool) (d : ℕ) (s : MetadataRendererState) → StateHas G Z s → StateHas G Z (wanting w d s)
  unfolding wanting
  wanting_has w d s h =
      let o = get_or s.sources d no_source in
      record {
        beds = h.beds;
        objects = h.objects;
        states = h.states;
        gains = h.gains;
        sources = set_each (λ i x. i < 16 → SourceHas G Z x) s.sources d (with_marks w o.held o) no_source (λ q. marks_have w o.held o (h.sources d q)) h.sources;
        targets = h.targets;
      }
