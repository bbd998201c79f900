-- The law of specs/Alone. Assumes nothing.
use Prim.Native.Nat.{ℕ, zero, suc, ◌+◌, ◌-◌, ◌*◌, ◌<◌}
use mathlib.Core.Path.{◌≡◌, refl, sym, ap, ap₂, ◌∙◌, subst}
use mathlib.Core.Bool.{Bool, true, false, cond, not, ◌&&◌, ◌||◌, true≢false}
use mathlib.Core.List.{List}
use native.Mathlib.Omega.{arith}
use lib.Dec.{eqb}
use lib.Ieee.{Float}
use lib.IntN.{ℤ, pos}
use lib.Signed.{lt_z, le_z}
use lib.ListN.{get_or, set, length-set}
use Rattle.std.specs.Prelude.{unwrap_or, Some, None}
use Rattle.words.specs.Words.{word}
use Rattle.vectors.specs.declared.Vec3.{Vec3}
use Rattle.vectors.specs.declared.BlockPosition.{BlockPosition}
use Rattle.vectors.specs.Head.{head_in, anchor_of}
use Rattle.vectors.specs.Vectors.{lerp_vec3}
use Rattle.vectors.specs.Target.{moved, unmoved, movable, placed}
use Rattle.timed.specs.InfoSizes.{most_blocks, element_infos, info_number, info_at}
use Rattle.timed.specs.Turns.{times}
use Rattle.timed.specs.Holds.{with_marks, wanting, mark_settled_at, holds_settled}
use Rattle.timed.specs.Infos.{gain_at, size_at, block_position}
use Rattle.timed.specs.Objects.{ObjectsWork, no_source, no_track, put_at, object_moved, moved_at, moved_all, bed_gains, ramped, ramped_at, ramped_all, freed, freed_at, freed_all}
use Rattle.timed.specs.Rules.{no_block, no_element, element_of, offset_of, remaining_of, kept_as, timecode, due, left_after, ramp_over, share, slot_less, active, begins}
use Rattle.timed.specs.Slot.{SlotWork, Sourced, slot_begun, block_applied, block_turn, blocks_applied, ramp_applied, updated_sources}
use Rattle.timed.specs.State.{Timed, element_taken, timing_of, reach_of, element_slot, slot_of, slot_moved, slot_at}
use Rattle.timed.specs.Alone.{target_of, Apart, SourceAlike, TrackAlike, SourcesAlike, TracksAlike, ElementAlike, AlikeBut, AskedAlike, HoldAlone}
use Rattle.timed.specs.declared.state.Track.{Track}
use Rattle.timed.specs.declared.state.DynamicSourceState.{DynamicSourceState}
use Rattle.timed.specs.declared.state.BlockState.{BlockState}
use Rattle.timed.specs.declared.state.ElementRendererState.{ElementRendererState}
use Rattle.timed.specs.declared.objects.Moving.{Moving}
use Rattle.timed.specs.declared.slot.Timing.{Timing}
use Rattle.timed.specs.declared.slot.Reach.{Reach}
use Rattle.timed.specs.declared.slot.Slot.{Slot}
use Rattle.timed.proofs.Invariants.{set_each, times_both, set_both}
use Rattle.timed.proofs.SlotInfos.{Like, like_refl, like_trans, like_head, moved_like}

-- ---- a block: where the object is changes only a target that is the object's own place

module _ (b : BlockPosition) (here there : Vec3) where
  rest : (placed b here).position ≡ (placed b there).position
  unfolding placed
  rest = by (b.valid && movable b.anchor)
    where
      by : (m : Bool) → (cond m (moved b) (unmoved b here)).position ≡ (cond m (moved b) (unmoved b there)).position
      by true = refl
      by false = refl

  rest_last : (placed b here).last ≡ (placed b there).last
  unfolding placed
  rest_last = by (b.valid && movable b.anchor)
    where
      by : (m : Bool) → (cond m (moved b) (unmoved b here)).last ≡ (cond m (moved b) (unmoved b there)).last
      by true = refl
      by false = refl

  same_target : movable b.anchor ≡ true → target_of (record { now = b.valid; future = (placed b here).target }) ≡ target_of (record { now = b.valid; future = (placed b there).target })
  unfolding placed
  same_target m = rw m (by b.valid)
    where
      by : (v : Bool) → cond v (Some (cond (v && true) (moved b) (unmoved b here)).target) None ≡ cond v (Some (cond (v && true) (moved b) (unmoved b there)).target) None
      by true = refl
      by false = refl

anchor_kept : (is js : List ℕ) (n : ℕ) → word js (info_at n) ≡ word is (info_at n) → (block_position js n).anchor ≡ (block_position is n).anchor
unfolding block_position
anchor_kept is js n e = ap (λ (h : ℕ). anchor_of (head_in h).anchor) e

module _ (apart : Type 0) (d : ℕ) where
  module _ (arrived : Bool) (n k : ℕ) (is : List ℕ) (s o : DynamicSourceState) (h : SourceAlike d k s o) where
    moved_infos : (object_moved arrived n s is).infos ≡ (object_moved arrived n o is).infos
    unfolding object_moved
    moved_infos = rw (rest (block_position is n) s.place o.place, rest_last (block_position is n) s.place o.place)

    moved_source : SourceAlike d k (object_moved arrived n s is).moved.source (object_moved arrived n o is).moved.source
    unfolding object_moved
    moved_source =
        record {
          gain = ap (unwrap_or (gain_at is n)) h.gain;
          size = ap (unwrap_or (size_at is n)) h.size;
          placed = ap (λ (p : Bool). ((block_position is n).valid && arrived) || p) h.placed;
          send = refl;
          others = λ ne. ap (λ (x : DynamicSourceState). (object_moved arrived n x is).moved.source) (h.others ne);
        }

    moved_track : (k ≡ d → apart → movable (block_position is n).anchor ≡ true) → TrackAlike apart d k (object_moved arrived n s is).moved.track (object_moved arrived n o is).moved.track
    unfolding object_moved
    moved_track free =
        record {
          now = refl;
          target = λ e f. same_target (block_position is n) s.place o.place (free e f);
          others = λ ne. ap (λ (x : DynamicSourceState). (object_moved arrived n x is).moved.track) (h.others ne);
        }

  -- ---- a slot in work

  record SlotAlike (x y : Slot) : Type 0 where
    schedule : x.schedule ≡ y.schedule
    remaining : x.remaining ≡ y.remaining
    gains : x.gains ≡ y.gains
    sources : SourcesAlike d x.moving.sources y.moving.sources
    tracks : TracksAlike apart d x.moving.tracks y.moving.tracks

  -- ---- a block for all objects

  module _ (is₀ : List ℕ) where
    record WorkAlike (x y : ObjectsWork) : Type 0 where
      infos : x.infos ≡ y.infos
      heads : Like is₀ x.infos
      sources : SourcesAlike d x.moving.sources y.moving.sources
      tracks : TracksAlike apart d x.moving.tracks y.moving.tracks

    module _ (arrived : Bool) (first : ℕ) (free : apart → movable (block_position is₀ (first + 8 * d)).anchor ≡ true) where
      moved_at_alike : (i : ℕ) (x y : ObjectsWork) → WorkAlike x y → WorkAlike (moved_at arrived first i x) (moved_at arrived first i y)
      moved_at_alike i x y h =
          let n = first + 8 * i in
          let s = get_or x.moving.sources i no_source in
          let o = get_or y.moving.sources i no_source in
          let a = object_moved arrived n s x.infos in
          let b = object_moved arrived n o x.infos in
          let near : i ≡ d → apart → movable (block_position x.infos n).anchor ≡ true = λ e f. rw (anchor_kept is₀ x.infos n (like_head h.heads n), e) (free f) in
          let source = moved_source arrived n i x.infos s o (h.sources.each i) in
          let track = moved_track arrived n i x.infos s o (h.sources.each i) near in
          subst (λ (js : List ℕ). WorkAlike (moved_at arrived first i x) (moved_at arrived first i (record { moving = y.moving; infos = js }))) h.infos
          (record {
            infos = moved_infos arrived n i x.infos s o (h.sources.each i);
            heads = like_trans h.heads (moved_like arrived n s x.infos);
            sources = record {
              long = length-set x.moving.sources i a.moved.source ∙ h.sources.long ∙ sym (length-set y.moving.sources i b.moved.source);
              each = set_both (SourceAlike d) x.moving.sources y.moving.sources i a.moved.source b.moved.source no_source h.sources.long source h.sources.each;
            };
            tracks = record {
              long = length-set x.moving.tracks i a.moved.track ∙ h.tracks.long ∙ sym (length-set y.moving.tracks i b.moved.track);
              each = set_both (TrackAlike apart d) x.moving.tracks y.moving.tracks i a.moved.track b.moved.track no_track h.tracks.long track h.tracks.each;
            };
          })

      moved_all_alike : (n : ℕ) (m o : Moving) (is : List ℕ) → Like is₀ is → SourcesAlike d m.sources o.sources
          → TracksAlike apart d m.tracks o.tracks → WorkAlike (moved_all arrived first n m is) (moved_all arrived first n o is)
      unfolding moved_all
      moved_all_alike n m o is heads sources tracks =
          times_both WorkAlike (moved_at arrived first) (moved_at arrived first) n (λ i x y l. moved_at_alike i x y) n 0 (omega arith) (record { moving = m; infos = is }) (record { moving = o; infos = is })
          (record { infos = refl; heads = heads; sources = sources; tracks = tracks })

    -- ---- blocks

    record InWork (x y : SlotWork) : Type 0 where
      slot : SlotAlike x.slot y.slot
      infos : x.infos ≡ y.infos
      heads : Like is₀ x.infos

    module _ (w : Timing) (r : Reach) where
      applied_alike : (b : ℕ) → (apart → movable (block_position is₀ (r.first + b + 8 * d)).anchor ≡ true) → (x y : SlotWork) → InWork x y → InWork (block_applied w r b x) (block_applied w r b y)
      unfolding block_applied
      applied_alike b free x y h =
          let over : List BlockState → Bool = λ l. ramp_over (left_after w (get_or l b no_block)) in
          let m = moved_all_alike (over x.slot.schedule) (r.first + b) free r.count x.slot.moving y.slot.moving x.infos h.heads h.slot.sources h.slot.tracks in
          let there : Bool → List ℕ → ObjectsWork = λ o is. moved_all o (r.first + b) r.count y.slot.moving is in
          let all : WorkAlike (moved_all (over x.slot.schedule) (r.first + b) r.count x.slot.moving x.infos) (there (over y.slot.schedule) y.infos) =
          subst (λ (is : List ℕ). WorkAlike (moved_all (over x.slot.schedule) (r.first + b) r.count x.slot.moving x.infos) (there (over y.slot.schedule) is)) h.infos
          (subst (λ (l : List BlockState). WorkAlike (moved_all (over x.slot.schedule) (r.first + b) r.count x.slot.moving x.infos) (there (over l) x.infos)) h.slot.schedule m) in
          record {
            slot = record {
              schedule = ap (λ (l : List BlockState). let q = get_or l b no_block in set l b (record { offset = q.offset; ramp = q.ramp; used = true })) h.slot.schedule;
              remaining = ap (λ (l : List BlockState). kept_as (left_after w (get_or l b no_block))) h.slot.schedule;
              gains = λ j. bed_gains (h.infos j) (r.beds + b) r.channels (h.slot.gains j);
              sources = all.sources;
              tracks = all.tracks;
            };
            infos = all.infos;
            heads = all.heads;
          }

      blocks_alike : (n : ℕ) → ((b : ℕ) → b < n → apart → movable (block_position is₀ (r.first + b + 8 * d)).anchor ≡ true) → (x y : SlotWork) → InWork x y
          → InWork (blocks_applied w r n x) (blocks_applied w r n y)
      unfolding blocks_applied
      blocks_alike n free =
          times_both InWork (block_turn w r) (block_turn w r) n
          (λ b x y l h.
          subst (λ (q : List BlockState). InWork (block_turn w r b x) (cond (due w (get_or q b no_block)) (block_applied w r b y) y)) h.slot.schedule
          (by (due w (get_or x.slot.schedule b no_block)) (applied_alike b (free b l) x y h) h))
          n 0 (omega arith)
        where
          by : (t : Bool) {a b c e : SlotWork} → InWork a b → InWork c e → InWork (cond t a c) (cond t b e)
          by true h k = h
          by false h k = k

  -- ---- the ramp

  freed_source : (k : ℕ) (x y : Track) (s o : DynamicSourceState) → TrackAlike apart d k x y → SourceAlike d k s o → SourceAlike d k (freed x s) (freed y o)
  unfolding freed
  freed_source k x y s o t h =
      let p = x.now && (s.held && not s.wanted) in
      let q = y.now && (o.held && not o.wanted) in
      record {
        gain = by (λ z. z.gain) p x.future s refl ∙ h.gain ∙ sym (by (λ z. z.gain) q y.future o refl);
        size = by (λ z. z.size) p x.future s refl ∙ h.size ∙ sym (by (λ z. z.size) q y.future o refl);
        placed = by (λ z. z.placed) p x.future s refl ∙ h.placed ∙ sym (by (λ z. z.placed) q y.future o refl);
        send = by (λ z. z.send) p x.future s refl ∙ h.send ∙ sym (by (λ z. z.send) q y.future o refl);
        others = λ ne. ap₂ freed (t.others ne) (h.others ne);
      }
    where
      by : {A : Type 0} (f : DynamicSourceState → A) (t : Bool) (place : Vec3) (s : DynamicSourceState) → f (put_at place s.placed s) ≡ f s → f (cond t (put_at place s.placed s) s) ≡ f s
      by f true place s e = e
      by f false place s e = refl

  ramped_source : (t : Float) (k : ℕ) (last was : Bool) (x y : Track) (s o : DynamicSourceState) → last ≡ was → TrackAlike apart d k x y → SourceAlike d k s o
      → SourceAlike d k (ramped t last x s) (ramped t was y o)
  unfolding ramped
  ramped_source t k last was x y s o l a h =
      let p = cond s.wanted s.place (cond (last && s.placed) (lerp_vec3 s.place x.future t) x.future) in
      let q = cond o.wanted o.place (cond (was && o.placed) (lerp_vec3 o.place y.future t) y.future) in
      record {
        gain = by (λ z. z.gain) x.now p s refl ∙ h.gain ∙ sym (by (λ z. z.gain) y.now q o refl);
        size = by (λ z. z.size) x.now p s refl ∙ h.size ∙ sym (by (λ z. z.size) y.now q o refl);
        placed = flagged x.now p s ∙ ap₂ ◌||◌ a.now h.placed ∙ sym (flagged y.now q o);
        send = by (λ z. z.send) x.now p s refl ∙ h.send ∙ sym (by (λ z. z.send) y.now q o refl);
        others = λ ne j. ramped t (l j) (a.others ne j) (h.others ne j);
      }
    where
      by : {A : Type 0} (f : DynamicSourceState → A) (t : Bool) (place : Vec3) (s : DynamicSourceState) → f (put_at place true s) ≡ f s → f (cond t (put_at place true s) s) ≡ f s
      by f true place s e = e
      by f false place s e = refl

      flagged : (t : Bool) (place : Vec3) (s : DynamicSourceState) → (cond t (put_at place true s) s).placed ≡ (t || s.placed)
      flagged true place s = refl
      flagged false place s = refl

  record MovingAlike (m o : Moving) : Type 0 where
    sources : SourcesAlike d m.sources o.sources
    tracks : TracksAlike apart d m.tracks o.tracks

  source_set : (i : ℕ) (m o : Moving) (x y : DynamicSourceState) → MovingAlike m o → SourceAlike d i x y
      → MovingAlike (record { sources = set m.sources i x; tracks = m.tracks }) (record { sources = set o.sources i y; tracks = o.tracks })
  source_set i m o x y h a =
      record {
        sources = record {
          long = length-set m.sources i x ∙ h.sources.long ∙ sym (length-set o.sources i y);
          each = set_both (SourceAlike d) m.sources o.sources i x y no_source h.sources.long a h.sources.each;
        };
        tracks = h.tracks;
      }

  freed_alike : (n : ℕ) (m o : Moving) → MovingAlike m o → MovingAlike (freed_all n m) (freed_all n o)
  unfolding freed_all
  freed_alike n =
      times_both MovingAlike freed_at freed_at n
      (λ i x y l h.
      source_set i x y _ _ h
      (freed_source i (get_or x.tracks i no_track) (get_or y.tracks i no_track) (get_or x.sources i no_source) (get_or y.sources i no_source) (h.tracks.each i) (h.sources.each i)))
      n 0 (omega arith)

  ramped_alike : (t : Float) (before past : List Track) (n : ℕ) → TracksAlike apart d before past → (m o : Moving) → MovingAlike m o → MovingAlike (ramped_all t before n m) (ramped_all t past n o)
  unfolding ramped_all
  ramped_alike t before past n b =
      times_both MovingAlike (ramped_at t before) (ramped_at t past) n
      (λ i x y l h.
      source_set i x y _ _ h
      (ramped_source t i (get_or before i no_track).now (get_or past i no_track).now (get_or x.tracks i no_track) (get_or y.tracks i no_track) (get_or x.sources i no_source)
      (get_or y.sources i no_source) (b.each i).now (h.tracks.each i) (h.sources.each i)))
      n 0 (omega arith)

  slot_ramp : (before past : List Track) (n : ℕ) → TracksAlike apart d before past → (x y : Slot) → SlotAlike x y → SlotAlike (ramp_applied before n x) (ramp_applied past n y)
  unfolding ramp_applied
  slot_ramp before past n b x y h =
      let m : MovingAlike x.moving y.moving = record { sources = h.sources; tracks = h.tracks } in
      let f = freed_alike n x.moving y.moving m in
      let g : (t u : Float) → t ≡ u → MovingAlike (ramped_all t before n x.moving) (ramped_all u past n y.moving) = λ t u e.
      subst (λ (v : Float). MovingAlike (ramped_all t before n x.moving) (ramped_all v past n y.moving)) e (ramped_alike t before past n b x.moving y.moving m) in
      let r = g (share (remaining_of x.remaining)) (share (remaining_of y.remaining)) (ap (λ (z : ℕ). share (remaining_of z)) h.remaining) in
      by (ramp_over (remaining_of x.remaining)) (ramp_over (remaining_of y.remaining)) (ap (λ (z : ℕ). ramp_over (remaining_of z)) h.remaining)
      (record { schedule = h.schedule; remaining = h.remaining; gains = h.gains; sources = f.sources; tracks = f.tracks })
      (record {
        schedule = h.schedule;
        remaining = ap (λ (z : ℕ). kept_as (slot_less (remaining_of z))) h.remaining;
        gains = h.gains;
        sources = r.sources;
        tracks = r.tracks;
      })
    where
      by : (t u : Bool) {a b c e : Slot} → t ≡ u → SlotAlike a b → SlotAlike c e → SlotAlike (cond t a c) (cond u b e)
      by true true q h k = h
      by true false q h k = absurd (true≢false q)
      by false true q h k = absurd (true≢false (sym q))
      by false false q h k = k

  -- ---- the element

  record SourcedAlike (is₀ : List ℕ) (x y : Sourced) : Type 0 where
    element : ElementAlike apart d x.updated.element y.updated.element
    gains : x.updated.gains ≡ y.updated.gains
    sources : SourcesAlike d x.updated.sources y.updated.sources
    infos : x.infos ≡ y.infos

  updated_alike : (w : Timing) (r : Reach) (e f : ElementRendererState) (gains : List Float) (s o : List DynamicSourceState) (is : List ℕ)
      → ((b : ℕ) → b < e.blocks → apart → movable (block_position is (r.first + b + 8 * d)).anchor ≡ true) → ElementAlike apart d e f → SourcesAlike d s o
      → SourcedAlike is (updated_sources w r e gains s is) (updated_sources w r f gains o is)
  unfolding updated_sources
  updated_alike w r e f gains s o is free h a =
      let k = slot_begun e gains s is in
      let l = slot_begun f gains o is in
      let start : InWork is k l =
      record { slot = record { schedule = h.schedule; remaining = h.remaining; gains = refl; sources = a; tracks = h.tracks }; infos = refl; heads = like_refl is } in
      let blocks = subst (λ (n : ℕ). InWork is (blocks_applied w r e.blocks k) (blocks_applied w r n l)) h.blocks (blocks_alike is w r e.blocks free k l start) in
      let last = slot_ramp e.tracks f.tracks r.count h.tracks (blocks_applied w r e.blocks k).slot (blocks_applied w r f.blocks l).slot blocks.slot in
      record {
        element = record { blocks = h.blocks; flags = h.flags; remaining = last.remaining; schedule = last.schedule; tracks = last.tracks };
        gains = last.gains;
        sources = last.sources;
        infos = blocks.infos;
      }

-- ---- which element is taken

module _ {apart : Type 0} {d : ℕ} where
  begins_alike : (w : Timing) (e f : ElementRendererState) → ElementAlike apart d e f → begins w e ≡ begins w f
  unfolding begins
  begins_alike w e f h =
      let o : List BlockState → ℤ = λ l. offset_of (get_or l 0 no_block) in
      ap₂ (λ (n : ℕ) (l : List BlockState). not (eqb n 0) && le_z (pos 0) (o l) && le_z (o l) (timecode w)) h.blocks h.schedule

  active_alike : (e f : ElementRendererState) → ElementAlike apart d e f → active e ≡ active f
  unfolding active
  active_alike e f h = ap₂ (λ (n : ℕ) (l : List BlockState). not (eqb n 0 || lt_z (offset_of (get_or l 0 no_block)) (pos 0))) h.blocks h.schedule

  taken_alike : (w : Timing) (es fs : List ElementRendererState) → ((e : ℕ) → ElementAlike apart d (get_or es e no_element) (get_or fs e no_element)) → (n : ℕ)
      → element_taken w es n ≡ element_taken w fs n
  unfolding element_taken
  taken_alike w es fs h zero = refl
  taken_alike w es fs h (suc n) = λ j. cond (begins_alike w (get_or es n no_element) (get_or fs n no_element) (h n) j) n (taken_alike w es fs h n j)

-- ---- the state

module _ (apart : Type 0) (start d : ℕ) (a b : Timed) (free : apart → Apart d a) (h : AlikeBut apart d a b) where
  slot_of_alike : (i : ℕ) → AlikeBut apart d (slot_of (timing_of start a.state) i a) (slot_of (timing_of start b.state) i b)
  unfolding slot_of
  slot_of_alike i =
      let w = timing_of start a.state in
      let r = reach_of a.state i in
      let e = element_of a.state i in
      let f = element_of b.state i in
      let near : (n : ℕ) → n < e.blocks → apart → movable (block_position a.infos (r.first + n + 8 * d)).anchor ≡ true = λ n l p.
      (let q : r.first + n + 8 * d ≡ info_number i (a.state.isf + d) n = omega arith in rw q (free p i n l)) in
      let u = updated_alike apart d w r e f a.state.gains a.state.sources b.state.sources a.infos near (h.each i) h.sources in
      let other : updated_sources w r f a.state.gains b.state.sources a.infos ≡ element_slot (timing_of start b.state) i b = λ j.
      updated_sources (record { start = record { 0 = start }; payload = h.payload j })
      (record { beds = i * element_infos; channels = h.beds j; first = i * element_infos + most_blocks * h.isf j; count = h.objects j - h.isf j }) f (h.gains j) b.state.sources (h.infos j) in
      let v = subst (λ (x : Sourced). SourcedAlike apart d a.infos (element_slot w i a) x) other u in
      let x = (element_slot w i a).updated.element in
      let y = (element_slot (timing_of start b.state) i b).updated.element in
      record {
        initialized = h.initialized;
        payload = h.payload;
        objects = h.objects;
        isf = h.isf;
        beds = h.beds;
        elements = h.elements;
        codes = h.codes;
        gains = v.gains;
        states = length-set a.state.states i x ∙ h.states ∙ sym (length-set b.state.states i y);
        each = set_both (λ _. ElementAlike apart d) a.state.states b.state.states i x y no_element h.states v.element h.each;
        sources = v.sources;
        infos = v.infos;
      }

  moved_alike : AlikeBut apart d (slot_moved start a) (slot_moved start b)
  unfolding slot_moved
  moved_alike =
      let w = timing_of start a.state in
      let u = timing_of start b.state in
      let i = element_taken w a.state.states a.state.elements in
      let k = element_taken u b.state.states b.state.elements in
      let same : i ≡ k = taken_alike w a.state.states b.state.states h.each a.state.elements
      ∙ (λ j. element_taken (record { start = record { 0 = start }; payload = h.payload j }) b.state.states (h.elements j)) in
      let on : active (element_of a.state i) ≡ active (element_of b.state k) = active_alike (element_of a.state i) (element_of b.state i) (h.each i)
      ∙ ap (λ (n : ℕ). active (element_of b.state n)) same in
      let moved = subst (λ (n : ℕ). AlikeBut apart d (slot_of w i a) (slot_of u n b)) same (slot_of_alike i) in
      by (eqb a.state.elements 0) (eqb b.state.elements 0) (ap (λ (n : ℕ). eqb n 0) h.elements) h
      (by (active (element_of a.state i)) (active (element_of b.state k)) on moved h)
    where
      by : (s t : Bool) {x y z v : Timed} → s ≡ t → AlikeBut apart d x y → AlikeBut apart d z v → AlikeBut apart d (cond s x z) (cond t y v)
      by true true q h k = h
      by true false q h k = absurd (true≢false q)
      by false true q h k = absurd (true≢false (sym q))
      by false false q h k = k

settled_alike : (apart : Type 0) (d : ℕ) (a b : Timed) → AlikeBut apart d a b
    → AlikeBut apart d (record { state = holds_settled a.state; infos = a.infos }) (record { state = holds_settled b.state; infos = b.infos })
unfolding holds_settled
settled_alike apart d a b h =
    let mark : DynamicSourceState → DynamicSourceState = λ o. with_marks o.wanted o.wanted o in
    let n = a.state.objects - a.state.isf in
    let set_one : (i : ℕ) (s o : List DynamicSourceState) → SourcesAlike d s o → SourcesAlike d (mark_settled_at i s) (mark_settled_at i o) = λ i s o g.
    (let x = get_or s i no_source in
    let y = get_or o i no_source in
    let e = g.each i in
    record {
      long = length-set s i (mark x) ∙ g.long ∙ sym (length-set o i (mark y));
      each = set_both (SourceAlike d) s o i (mark x) (mark y) no_source g.long
          (record { gain = e.gain; size = e.size; placed = e.placed; send = e.send; others = λ ne. ap mark (e.others ne) }) g.each;
    }) in
    record {
      initialized = h.initialized;
      payload = h.payload;
      objects = h.objects;
      isf = h.isf;
      beds = h.beds;
      elements = h.elements;
      codes = h.codes;
      gains = h.gains;
      states = h.states;
      each = h.each;
      sources =
          subst (λ (m : ℕ). SourcesAlike d (times n 0 mark_settled_at a.state.sources) (times m 0 mark_settled_at b.state.sources)) (λ j. h.objects j - h.isf j)
          (times_both (SourcesAlike d) mark_settled_at mark_settled_at n (λ i s o l. set_one i s o) n 0 (omega arith) a.state.sources b.state.sources h.sources);
      infos = h.infos;
    }

-- ---- the laws

pub hold_alone : HoldAlone
unfolding slot_at
hold_alone apart start d a b free h = settled_alike apart d (slot_moved start a) (slot_moved start b) (moved_alike apart start d a b free h)

pub asked_alike : AskedAlike
unfolding wanting
asked_alike apart w d t =
    let s = t.state.sources in
    let o = get_or s d no_source in
    let same : (k : ℕ) → SourceAlike d k (get_or s k no_source) (get_or s k no_source) = λ k.
    record { gain = refl; size = refl; placed = refl; send = refl; others = λ ne. refl } in
    record {
      initialized = refl;
      payload = refl;
      objects = refl;
      isf = refl;
      beds = refl;
      elements = refl;
      codes = refl;
      gains = refl;
      states = refl;
      each = λ e.
          record {
            blocks = refl;
            flags = refl;
            remaining = refl;
            schedule = refl;
            tracks = record { long = refl; each = λ k. record { now = refl; target = λ i p. refl; others = λ ne. refl } };
          };
      sources = record {
        long = sym (length-set s d (with_marks w o.held o));
        each =
            set_each (λ k x. SourceAlike d k (get_or s k no_source) x) s d (with_marks w o.held o) no_source
            (record { gain = refl; size = refl; placed = refl; send = refl; others = λ ne. absurd (ne refl) }) same;
      };
      infos = refl;
    }
