-- What a slot makes of one object, and the laws of specs/HoldLaws on a release. Assumes nothing.
use Prim.Native.Nat.{ℕ, zero, suc, ◌+◌, ◌-◌, ◌*◌, ◌<◌}
use mathlib.Core.Path.{◌≡◌, refl, sym, ap, ◌∙◌}
use mathlib.Core.Bool.{Bool, true, false, cond, not, ◌&&◌, true≢false}
use mathlib.Core.List.{List}
use native.Mathlib.Omega.{arith}
use lib.Dec.{eqb}
use lib.Ieee.{Float}
use lib.ListN.{length, get_or, length-set}
use Rattle.vectors.specs.declared.Vec3.{Vec3}
use Rattle.vectors.specs.Target.{placed}
use Rattle.timed.specs.Turns.{times}
use Rattle.timed.specs.Infos.{block_position}
use Rattle.timed.specs.Objects.{ObjectsWork, no_source, no_track, object_moved, moved_at, moved_all, ramped, ramped_at, ramped_all, freed, freed_at, freed_all}
use Rattle.timed.specs.Holds.{with_marks, mark_settled_at, holds_settled}
use Rattle.timed.specs.Rules.{no_block, element_of, remaining_of, due, left_after, ramp_over, share, active}
use Rattle.timed.specs.Slot.{SlotWork, slot_begun, block_applied, block_turn, blocks_applied, ramp_applied, updated_sources}
use Rattle.timed.specs.State.{Timed, timing_of, reach_of, slot_of, slot_moved, slot_at}
use Rattle.timed.specs.HoldLaws.{object_numbered, element_index, acts, blocks_done, source_in, track_in, GoesOn, PutAtTarget, StaysPut, AllStay, StandsUntil}
use Rattle.timed.specs.declared.state.BlockState.{BlockState}
use Rattle.timed.specs.declared.state.Track.{Track}
use Rattle.timed.specs.declared.state.DynamicSourceState.{DynamicSourceState}
use Rattle.timed.specs.declared.objects.Moving.{Moving}
use Rattle.timed.specs.declared.slot.Timing.{Timing}
use Rattle.timed.specs.declared.slot.Reach.{Reach}
use Rattle.timed.specs.declared.slot.Slot.{Slot}
use Rattle.timed.proofs.Invariants.{times_in, times_keeps, cond_keeps, set_each}
use Rattle.timed.proofs.SlotEach.{blocks_each}
use Rattle.timed.proofs.TurnAt.{turned, turned_at}

-- ---- the loops over objects, as turns of one table

module _ (tracks : List Track) where
  abbrev free_turn : ℕ → DynamicSourceState → DynamicSourceState
  free_turn d = freed (get_or tracks d no_track)

  freed_turns : (n i : ℕ) (l : List DynamicSourceState) → (times n i freed_at (record { sources = l; tracks = tracks })).sources ≡ times n i (turned free_turn no_source) l
  unfolding times
  freed_turns zero i l = refl
  freed_turns (suc n) i l = freed_turns n (suc i) (turned free_turn no_source i l)

  module _ (t : Float) (before : List Track) where
    abbrev ramp_turn : ℕ → DynamicSourceState → DynamicSourceState
    ramp_turn d = ramped t (get_or before d no_track).now (get_or tracks d no_track)

    ramped_turns : (n i : ℕ) (l : List DynamicSourceState) →
        (times n i (ramped_at t before) (record { sources = l; tracks = tracks })).sources ≡ times n i (turned ramp_turn no_source) l
    unfolding times
    ramped_turns zero i l = refl
    ramped_turns (suc n) i l = ramped_turns n (suc i) (turned ramp_turn no_source i l)

module _ (n d : ℕ) (m : Moving) (few : d < n) (one : d < length m.sources) where
  freed_one : get_or (freed_all n m).sources d no_source ≡ freed (get_or m.tracks d no_track) (get_or m.sources d no_source)
  unfolding freed_all
  freed_one =
      ap (λ (l : List DynamicSourceState). get_or l d no_source) (freed_turns m.tracks n 0 m.sources) ∙ turned_at (free_turn m.tracks) no_source n d m.sources few one

  ramped_one : (t : Float) (before : List Track) →
      get_or (ramped_all t before n m).sources d no_source ≡ ramped t (get_or before d no_track).now (get_or m.tracks d no_track) (get_or m.sources d no_source)
  unfolding ramped_all
  ramped_one t before =
      ap (λ (l : List DynamicSourceState). get_or l d no_source) (ramped_turns m.tracks t before n 0 m.sources)
      ∙ turned_at (ramp_turn m.tracks t before) no_source n d m.sources few one

-- ---- blocks lose no object, and leave the marks

moved_length : (arrived : Bool) (first n : ℕ) (m : Moving) (is : List ℕ) → length (moved_all arrived first n m is).moving.sources ≡ length m.sources
unfolding moved_all
moved_length arrived first n m is =
    times_keeps (λ (w : ObjectsWork). length w.moving.sources ≡ length m.sources) (moved_at arrived first)
    (λ d w h. length-set w.moving.sources d (object_moved arrived (first + 8 * d) (get_or w.moving.sources d no_source) w.infos).moved.source ∙ h)
    n 0 (record { moving = m; infos = is }) refl

blocks_length : (w : Timing) (r : Reach) (n : ℕ) (k : SlotWork) → length (blocks_applied w r n k).slot.moving.sources ≡ length k.slot.moving.sources
unfolding blocks_applied block_applied
blocks_length w r n k =
    let P : SlotWork → Type 0 = λ x. length x.slot.moving.sources ≡ length k.slot.moving.sources in
    times_keeps P (block_turn w r)
    (λ b x h. cond_keeps P (due w (get_or x.slot.schedule b no_block)) (block_applied w r b x) x
    (λ _. moved_length _ (r.first + b) r.count x.slot.moving x.infos ∙ h) (λ _. h))
    n 0 k refl

-- its marks are those of o
abbrev MarksOf : DynamicSourceState → DynamicSourceState → Type 0
MarksOf o s = (s.wanted ≡ o.wanted) × (s.held ≡ o.held)

moved_marks : (arrived : Bool) (k : ℕ) (is : List ℕ) (o s : DynamicSourceState) → MarksOf o s → MarksOf o (object_moved arrived k s is).moved.source
unfolding object_moved
moved_marks arrived k is o s h = h

blocks_marks : (start d : ℕ) (t : Timed) → MarksOf (object_numbered d t.state) (source_in d (blocks_done start t))
unfolding ramped freed
blocks_marks start d t =
    let o : ℕ → DynamicSourceState = λ i. object_numbered i t.state in
    let e = element_of t.state (element_index start t.state) in
    blocks_each (λ i. MarksOf (o i)) (λ arrived k is i s h. moved_marks arrived k is (o i) s h) (λ x last k i s h. cond_keeps (MarksOf (o i)) k.now _ s (λ _. h) (λ _. h))
    (λ k i s h. cond_keeps (MarksOf (o i)) (k.now && (s.held && not s.wanted)) _ s (λ _. h) (λ _. h))
    (timing_of start t.state) (reach_of t.state (element_index start t.state)) e.blocks (slot_begun e t.state.gains t.state.sources t.infos) (λ i. (refl, refl)) d

-- ---- the object

slot_acts : (start : ℕ) (t : Timed) → acts start t.state ≡ true → slot_moved start t ≡ slot_of (timing_of start t.state) (element_index start t.state) t
unfolding slot_moved
slot_acts start t a = by (eqb t.state.elements 0) (active (element_of t.state (element_index start t.state))) a
  where
    by : (none on : Bool) {x : Timed} → (not none && on) ≡ true → cond none t (cond on x t) ≡ x
    by true on e = absurd (true≢false (sym e))
    by false true e = refl
    by false false e = absurd (true≢false (sym e))

slot_idles : (start : ℕ) (t : Timed) → acts start t.state ≡ false → slot_moved start t ≡ t
unfolding slot_moved
slot_idles start t a = by (eqb t.state.elements 0) (active (element_of t.state (element_index start t.state))) (slot_of (timing_of start t.state) (element_index start t.state) t) a
  where
    by : (none on : Bool) (x : Timed) → (not none && on) ≡ false → cond none t (cond on x t) ≡ t
    by true on x e = refl
    by false true x e = absurd (true≢false e)
    by false false x e = refl

-- settled marks move no object
settled_place : (start d : ℕ) (t : Timed) → (object_numbered d (slot_at start t).state).place ≡ (object_numbered d (slot_moved start t).state).place
unfolding slot_at holds_settled
settled_place start d t =
    let s = (slot_moved start t).state in
    let P : ℕ → DynamicSourceState → Type 0 = λ i o. o.place ≡ (get_or s.sources i no_source).place in
    times_keeps (λ (l : List DynamicSourceState). (i : ℕ) → P i (get_or l i no_source)) mark_settled_at
    (λ i l h. let o = get_or l i no_source in set_each P l i (with_marks o.wanted o.wanted o) no_source (h i) h)
    (s.objects - s.isf) 0 s.sources (λ i. refl) d

module _ (start d : ℕ) (t : Timed) (dynamic : d < t.state.objects - t.state.isf) (stored : d < length t.state.sources) (a : acts start t.state ≡ true) where
  abbrev s : Slot
  s = blocks_done start t

  abbrev before : List Track
  before = (element_of t.state (element_index start t.state)).tracks

  -- what the slot makes of object d, from what its blocks leave
  object_after : object_numbered d (slot_moved start t).state
      ≡ cond (ramp_over (remaining_of s.remaining)) (freed (track_in d s) (source_in d s))
      (ramped (share (remaining_of s.remaining)) (get_or before d no_track).now (track_in d s) (source_in d s))
  unfolding slot_of updated_sources ramp_applied
  object_after =
      let r = reach_of t.state (element_index start t.state) in
      let one : d < length s.moving.sources = rw (blocks_length (timing_of start t.state) r _ _) stored in
      ap (λ (x : Timed). object_numbered d x.state) (slot_acts start t a) ∙ by (ramp_over (remaining_of s.remaining)) _ _ _ _ (freed_one r.count d s.moving dynamic one) (ramped_one r.count d s.moving dynamic one _ before)
    where
      by : (over : Bool) (x y : Slot) (o p : DynamicSourceState) → source_in d x ≡ o → source_in d y ≡ p → source_in d (cond over x y) ≡ cond over o p
      by true x y o p h k = h
      by false x y o p h k = k

-- ---- the laws of a release

pub goes_on : GoesOn
unfolding ramped
goes_on start d t r a e now =
    let s = blocks_done start t in
    let unwanted = (blocks_marks start d t).0 ∙ r.wanted in
    settled_place start d t ∙ ap (λ (o : DynamicSourceState). o.place) (object_after start d t r.dynamic r.stored a) ∙ rw (e, now, unwanted)

pub put_at_target : PutAtTarget
unfolding freed
put_at_target start d t r a e now =
    let m = blocks_marks start d t in
    let unwanted = m.0 ∙ r.wanted in
    let held = m.1 ∙ r.held in
    settled_place start d t ∙ ap (λ (o : DynamicSourceState). o.place) (object_after start d t r.dynamic r.stored a) ∙ rw (e, now, held, unwanted)

pub stays_put : StaysPut
unfolding ramped freed
stays_put start d t r a now =
    let s = blocks_done start t in
    settled_place start d t ∙ ap (λ (o : DynamicSourceState). o.place) (object_after start d t r.dynamic r.stored a) ∙ rw now (by (ramp_over (remaining_of s.remaining)))
  where
    by : (over : Bool) → (cond over (source_in d (blocks_done start t)) (source_in d (blocks_done start t))).place ≡ (source_in d (blocks_done start t)).place
    by true = refl
    by false = refl

pub all_stay : AllStay
all_stay start d t a = settled_place start d t ∙ ap (λ (x : Timed). (object_numbered d x.state).place) (slot_idles start t a)

-- ---- blocks that have a ramp left

stays_one : (k : ℕ) (s : DynamicSourceState) (is : List ℕ) → (object_moved false k s is).moved.source.place ≡ s.place
unfolding object_moved
stays_one k s is = by (block_position is k).valid (not s.wanted) (placed (block_position is k) s.place).target
  where
    by : (valid free : Bool) (to : Vec3) → cond (valid && false && free) to s.place ≡ s.place
    by true free to = refl
    by false free to = refl

-- they leave every object where it is
ramp_left_stays : (first n : ℕ) (m : Moving) (is : List ℕ) (i : ℕ) →
    (get_or (moved_all false first n m is).moving.sources i no_source).place ≡ (get_or m.sources i no_source).place
unfolding moved_all
ramp_left_stays first n m is =
    let P : ℕ → DynamicSourceState → Type 0 = λ i o. o.place ≡ (get_or m.sources i no_source).place in
    times_keeps (λ (w : ObjectsWork). (i : ℕ) → P i (get_or w.moving.sources i no_source)) (moved_at false first)
    (λ d w h.
    let o = get_or w.moving.sources d no_source in
    set_each P w.moving.sources d (object_moved false (first + 8 * d) o w.infos).moved.source no_source (stays_one (first + 8 * d) o w.infos ∙ h d) h)
    n 0 (record { moving = m; infos = is }) (λ i. refl)

module _ (w : Timing) (r : Reach) (bs : List BlockState) (d : ℕ) (p : Vec3) where
  -- object d is at p; a block that is due was so before, with as much left
  record Before (k : SlotWork) : Type 0 where
    place : (source_in d k.slot).place ≡ p
    same : (b : ℕ) → due w (get_or k.slot.schedule b no_block) ≡ true →
        (due w (get_or bs b no_block) ≡ true) × (left_after w (get_or k.slot.schedule b no_block) ≡ left_after w (get_or bs b no_block))

  applied_before : (b : ℕ) (k : SlotWork) → ramp_over (left_after w (get_or k.slot.schedule b no_block)) ≡ false → Before k → Before (block_applied w r b k)
  unfolding block_applied due
  applied_before b k e h =
      let x = get_or k.slot.schedule b no_block in
      record {
        place = rw e (ramp_left_stays (r.first + b) r.count k.slot.moving k.infos d ∙ h.place);
        same =
            set_each (λ i y. due w y ≡ true → (due w (get_or bs i no_block) ≡ true) × (left_after w y ≡ left_after w (get_or bs i no_block))) k.slot.schedule b
            (record { offset = x.offset; ramp = x.ramp; used = true }) no_block (λ q. absurd (true≢false (sym q))) h.same;
      }

  stands : (n : ℕ) (k : SlotWork) → ((b : ℕ) → b < n → due w (get_or bs b no_block) ≡ true → ramp_over (left_after w (get_or bs b no_block)) ≡ false) → Before k
      → Before (blocks_applied w r n k)
  unfolding blocks_applied
  stands n k left =
      times_in Before (block_turn w r) n
      (λ b x l h. cond_keeps Before (due w (get_or x.slot.schedule b no_block)) (block_applied w r b x) x
      (λ e. let q = h.same b e in applied_before b x (ap ramp_over q.1 ∙ left b l q.0) h) (λ _. h))
      n 0 (omega arith) k

pub stands_until : StandsUntil
stands_until start d t left =
    let s = t.state in
    let e = element_of s (element_index start s) in
    (stands (timing_of start s) (reach_of s (element_index start s)) e.schedule d (object_numbered d s).place e.blocks (slot_begun e s.gains s.sources t.infos) left
    (record { place = refl; same = λ b q. (q, refl) })).place
