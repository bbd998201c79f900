-- The frame's loop on the hall renderer: what each call in a turn is owed, and what a turn leaves. Assumes nothing.
use Prim.Native.Nat.{ℕ, zero, suc, ◌+◌, ◌-◌, ◌*◌, ◌%◌, ◌≤◌, ◌<◌}
use native.Mathlib.Nat.{le_of_lt}
use native.Mathlib.Omega.{arith}
use mathlib.Core.Path.{◌≡◌, refl, sym, ap, ap₂, ◌∙◌, subst}
use mathlib.Core.Bool.{true, false}
use mathlib.Core.List.{List, ◌++◌}
use lib.Dec.{eqb}
use lib.ListN.{length}
use lib.Ieee.{Float}
use borrow.Author.Tests.{ne_eqb}
use Rattle.ieee.specs.Bounds.{All}
use Rattle.words.specs.Words.{Bytes}
use Rattle.angles.specs.Angle.{Listed}
use Rattle.records.specs.ValuesInRange.{all_fit}
use Rattle.records.specs.LayoutAnswers.{IsLayout, offset_at}
use Rattle.records.specs.UpdateWalk.{next_offset}
use Rattle.records.specs.declared.metadata.Metadata.{Metadata}
use Rattle.records.proofs.Theorems.{next_within, next_above, next_least}
use Rattle.updates.specs.Applied.{applied}
use Rattle.mixing.proofs.Passes.{pass_plain}
use Rattle.limiter.specs.Meters.{unmet, meets_all}
use Rattle.limiter.specs.declared.meters.Meters.{Meters}
use Rattle.rules.specs.Leaves.{started}
use Rattle.rules.specs.Samples.{State, After, updated, slotted, pushed}
use Rattle.rules.specs.Refusals.{Args, listed}
use Rattle.rules.specs.Calls.{frame_with}
use Rattle.rules.proofs.Theorems.{ranged_fits, PassedWith, is_passed_with, all_append, updated_both, is_roomy, is_listed, rate_high, is_sized, samples_fit, and_true, R}
use Rattle.store.specs.declared.renderer.Renderer714.{Renderer714}
use Rattle.store.specs.Steps.{opened_by}
use Rattle.panning.specs.Setup.{Setup, present, marks_of}
use Rattle.store.specs.Layout.{assembled, places_of, layout_of, setup_in, decode}
use Rattle.store.specs.ValidBlocks.{hall_valid, valid}
use Rattle.store.proofs.Theorems.{setup_beside}
use Rattle.theorem.specs.Instance.{Sent, hall, block, sent_from}
use Rattle.theorem.proofs.Checked.{Shaped}
use Rattle.theorem.proofs.BlockRanges.{front_ranged}
use Rattle.rendering.proofs.Begins.{placed_at}
use Rattle.theorem.proofs.Theorems.{each_all, codes_long, shape_given, shape_slot, facts}
use Rattle.rendering.specs.declared.Rendering.{Rendering}
use Rattle.chunk.specs.ChunkRows.{small_bytes, hall_bytes_of, Laid}
use Rattle.rendering.specs.Begin.{CanStart}
use Rattle.rendering.specs.Held.{held, IsNext, Leads}
use Rattle.frame.specs.Chunk.{chunk}
use Rattle.rendering.specs.Out.{behind}
use Rattle.frame.specs.Turn.{ready_after, Passes}
use Rattle.frame.proofs.ChunkOnBlock.{Passable, stays_absent}
use Rattle.frame.specs.Loop.{run_length, Accepted, IsRendered}
use Rattle.rendering.proofs.Theorems.{both_applied, ranged_starts}
use Rattle.frame.proofs.Chunks.{NoneAt, Turn}
use Rattle.frame.proofs.Going.{Going, Begun, begun, step, swapped, starts, ends}
use Rattle.frame.proofs.Going as going
use Rattle.frame.proofs.Opening.{RunLength, run_length_is}

-- ---- a push that was accepted

shapes : going.Shaped hall block facts
unfolding facts applied
shapes =
    record {
      Coded = λ m. length m.state.codes ≡ 18;
      within = λ n m h. h.state.codes;
      keeps = λ n u m c h. codes_long u.said m.state.codes ∙ h;
      gives = shape_given;
      rests = shape_slot;
    }

-- the updates that a turn looks at: those that wait, then the frame's own
abbrev pub both_sent : Metadata → Metadata → List Sent
both_sent kept own = sent_from kept ++ sent_from own

-- those of metadata whose records are laid out, with blocks and depth factors in their ranges
pub all_shaped : (m : Metadata) → Bytes m.records.now → IsLayout m.records.now m.layout → all_fit m.records.now ≡ true → All Shaped (sent_from m)
all_shaped m b l f =
    each_all Shaped (placed_at m) m.layout.count
    (λ i h. record { meta = m.records.now; index = i; bytes = b; laid = l.laid; fit = f; there = let c = l.counted in omega arith; is = refl })

pub record Taken (b : List ℕ) (a : Args) (us : List Sent) : Type 0 where
  pub passed : PassedWith hall us (decode b) a
  pub ranged : R hall block facts (decode b)
  pub shaped : All facts.Shaped us
  pub samples : a.samples ≤ 1536

pub takes : (s : Renderer714) (b : List ℕ) (a : Args) (kept own : Metadata) → Accepted s b (both_sent kept own) a → Bytes b → All Shaped (sent_from kept)
    → All Shaped (sent_from own) → Taken b a (both_sent kept own)
unfolding facts
takes s b a kept own h bytes k m =
    let p = is_passed_with hall (both_sent kept own) (decode b) a h.clear in
    let x = (is_roomy a.stride (length a.out) p.early.room).most in
    let y = samples_fit a p.early.sized in
    record {
      passed = p;
      ranged = front_ranged b bytes h.valid;
      shaped = all_append Shaped (sent_from kept) (sent_from own) k m;
      samples = omega arith;
    }

pub valid_hall : (b : List ℕ) → valid b ≡ true → hall_valid b ≡ true
unfolding valid
valid_hall b e = (and_true _ (hall_valid b) e).1

pub is_rate : (s : Renderer714) (b : List ℕ) (us : List Sent) (a : Args) → Accepted s b us a → Listed a.rate
is_rate s b us a h = is_listed a.rate (is_passed_with hall us (decode b) a h.clear).early.listed

-- before sample t
pub record Running (b : List ℕ) (a : Args) (us : List Sent) (t : ℕ) (w : Rendering) (state out : List ℕ) : Type 0 where
  pub small : small_bytes state ≡ small_bytes b
  pub setup : hall_bytes_of state ≡ hall_bytes_of b
  pub going : Going hall block facts (decode b) us a t (held w.renderer state) w.ready w.meters out

pub opens : (s : Renderer714) (v : Rendering) (b : List ℕ) (a : Args) (us : List Sent) → Accepted s b us a → Taken b a us
    → v ≡ record { renderer = opened_by s a.rate; ready = 0; meters = unmet } → Running b a us 0 v b a.out
unfolding decode
opens s v b a us h k e =
    record {
      small = refl;
      setup = refl;
      going = subst (λ (v : Rendering). Going hall block facts (decode b) us a 0 (held v.renderer b) v.ready v.meters a.out)
          (sym (e ∙ ap (λ (s : Renderer714). record { renderer = opened_by s a.rate; ready = 0; meters = unmet }) h.small))
          (starts hall block facts (decode b) us a k.ranged k.passed);
    }

-- the next update of metadata after t, or `end`
abbrev pub next_sent : Metadata → ℕ → ℕ → ℕ
next_sent m t end = next_offset (offset_at m.layout) m.layout.count t end

-- those that wait, then the frame's own
pub both_leads : (kept own : Metadata) (t : ℕ) (r : State hall) {w v u : Rendering} {b₀ b c : List ℕ} → Leads (updated hall t (sent_from kept) r) w b₀ v b
    → Leads (updated hall t (sent_from own) (held v.renderer b)) v b u c → Leads (updated hall t (both_sent kept own) r) w b₀ u c
both_leads kept own t r {w} {v} {u} {b₀} {b} {c} h g =
    record {
      next = subst (λ (x : State hall). IsNext x b₀ u.renderer c) (sym (updated_both hall t (sent_from kept) (sent_from own) r)) (both_applied own t h.next g.next);
      ready = g.ready ∙ h.ready;
      meters = g.meters ∙ h.meters;
    }

-- ---- a turn
module _ (b : List ℕ) (a : Args) (kept own : Metadata) (k : Taken b a (both_sent kept own)) (t : ℕ) (w : Rendering) (state out : List ℕ)
    (h : Running b a (both_sent kept own) t w state out) (more : t < a.samples) where
  abbrev us : List Sent
  us = both_sent kept own

  abbrev met : State hall
  met = slotted hall (updated hall t us (held w.renderer state))

  here : Begun hall block facts (decode b) us a t (held w.renderer state)
  here = begun hall block facts (decode b) us a shapes k.passed k.shaped t (held w.renderer state) w.ready w.meters out h.going more

  -- the updates at t, and the slot
  pub can_begin : CanStart (updated hall t us (held w.renderer state))
  unfolding facts
  can_begin = ranged_starts (updated hall t us (held w.renderer state)) here.updates

  -- the next update or the frame's end
  module _ (end : ℕ) (is-end : end ≡ next_sent own t (next_sent kept t a.samples)) where
    pub end_above : t < end
    end_above =
        subst (λ (x : ℕ). t < x) (sym is-end)
        (next_above (offset_at own.layout) t (next_sent kept t a.samples) own.layout.count (next_above (offset_at kept.layout) t a.samples kept.layout.count more))

    end_kept : end ≤ next_sent kept t a.samples
    end_kept = subst (λ (x : ℕ). x ≤ next_sent kept t a.samples) (sym is-end) (next_within (offset_at own.layout) t (next_sent kept t a.samples) own.layout.count)

    end_within : end ≤ a.samples
    end_within = let x = end_kept in let y = next_within (offset_at kept.layout) t a.samples kept.layout.count in omega arith

    none_before : (j : ℕ) → t < j → j < end → NoneAt hall j us
    none_before j x y =
        all_append (λ (u : Sent). eqb u.offset j ≡ false) (sent_from kept) (sent_from own)
        (each_all (λ (u : Sent). eqb u.offset j ≡ false) (placed_at kept) kept.layout.count
        (λ i n. ne_eqb (offset_at kept.layout i) j (λ e. late_kept i n e)))
        (each_all (λ (u : Sent). eqb u.offset j ≡ false) (placed_at own) own.layout.count (λ i n. ne_eqb (offset_at own.layout i) j (λ e. late_own i n e)))
      where
        late_kept : (i : ℕ) → i < kept.layout.count → offset_at kept.layout i ≡ j → ⊥
        late_kept i n e =
            let m : next_sent kept t a.samples ≤ offset_at kept.layout i = next_least (offset_at kept.layout) t a.samples kept.layout.count i n (omega arith) in
            let z = end_kept in
            omega arith

        late_own : (i : ℕ) → i < own.layout.count → offset_at own.layout i ≡ j → ⊥
        late_own i n e =
            let m : next_sent own t (next_sent kept t a.samples) ≤ offset_at own.layout i =
            next_least (offset_at own.layout) t (next_sent kept t a.samples) own.layout.count i n (omega arith) in
            omega arith

    -- with the small part s' and the block state' after them
    module _ (w' : Rendering) (state' : List ℕ) (e : Leads met w state w' state') where
      abbrev s' : Renderer714
      s' = w'.renderer

      now_ranged : R hall block facts (held s' state')
      now_ranged = subst (R hall block facts) (sym e.next.holds) here.ranged

      pub few : (s'.clock.phase < 64) × (s'.pending < 64)
      few = (now_ranged.phase, now_ranged.pending)

      -- and n samples of the turn
      module _ (n : ℕ) (len : RunLength s'.state.initialized s'.clock.phase s'.pending (end - t) n) where
        pub turn_fits : t + n ≤ a.samples
        turn_fits = let x = len.within in let y = end_within in let z = end_above in omega arith

        pub can_pass : Passable w' state' a.pcm out a.codes a.objects a.samples t n a.stride
        unfolding facts
        can_pass =
            let p = k.passed in
            let z = is_sized a p.early.sized in
            let c = z.pcm in
            let w₁ = is_roomy a.stride (length a.out) p.early.room in
            let r = now_ranged in
            let g = h.going in
            let q = r.start in
            let v = r.position in
            let o = w₁.long in
            let y = g.long in
            record {
              framed = record { room = omega arith; plain = pass_plain a.pcm 0 ((length a.codes + a.objects) * a.samples) p.early.pass };
              span = turn_fits;
              inputs = z.codes;
              few = z.objects;
              passes = record {
                beds = r.meta.state.within.beds;
                dynamic = subst (λ (x : State hall). started hall x.meta ≡ true → (hall.shape x.meta).objects ≡ a.objects) (sym e.next.holds) here.fits;
                pending = len.room;
                phase = le_of_lt r.phase;
                position = r.position;
                start = omega arith;
              };
              some = len.some;
              rate = le_of_lt (rate_high (is_listed s'.rate (ap (λ (x : State hall). listed x.rate) e.next.holds ∙ here.listed)));
              room = λ x. roomy e.ready g.whole w₁.whole k.ranged.pending z.samples turn_fits g.pending
                  (ap (λ (x : State hall). x.pending.count) e.next.holds ∙ here.pending) x;
              short = let m = w₁.most in omega arith;
              output = omega arith;
              hall = ranged_fits r.setup;
              sources = r.meta.state.objects;
            }
          where
            roomy : w'.ready ≡ w.ready → w.ready % 64 ≡ 0 → a.stride % 64 ≡ 0 → (decode b).pending.count < 64 → a.samples ≤ a.stride → t + n ≤ a.samples
                → w.ready + w.renderer.pending ≡ (decode b).pending.count + t → s'.pending ≡ w.renderer.pending → s'.pending + n ≡ 64 → w'.ready + 64 ≤ a.stride
            roomy i x y z v u p q r = omega arith

        turn_of : (i : ℕ) → n ≡ suc i → Turn hall (frame_with hall us a) i t met
        turn_of i q =
            let w = len.within in
            let o = len.room in
            record {
              quiet = λ j x y. none_before j x (omega arith);
              slot = subst (λ (x : State hall). started hall x.meta ≡ true → x.clock.phase + suc i ≤ 64) e.next.holds
                  (subst (λ (m : ℕ). s'.state.initialized ≡ true → s'.clock.phase + m ≤ 64) q len.slot);
              room = subst (λ (x : State hall). x.pending.count + suc i ≤ 64) e.next.holds (omega arith);
            }

        -- what the turn leaves
        pub turns : (r : Rendering) (c o : List ℕ) → Passes (frame_with hall us a) t n a.stride w' state' out r c o → Running b a us (t + n) r c o
        turns r c o p = go n refl p
          where
            go : (m : ℕ) → n ≡ m → Passes (frame_with hall us a) t m a.stride w' state' out r c o → Running b a us (t + m) r c o
            go zero q p = let x = len.some in absurd (omega arith)
            go (suc i) q p =
                let f = frame_with hall us a in
                let fit = turn_fits in
                let d = step hall block facts (decode b) us a shapes k.passed k.shaped t (held w.renderer state) w.ready w.meters out h.going more
                k.ranged.pending i (omega arith) (turn_of i q) in
                let G : State hall → ℕ → Meters → List ℕ → Type 0 = Going hall block facts (decode b) us a (t + suc i) in
                let C : State hall → After hall = chunk hall f (suc i) t in
                let o₁ : ℕ → State hall → List ℕ = λ n x. behind n (C x).given a.stride out in
                let d₁ = subst (λ (x : State hall). G (C x).next (ready_after w.ready (C x).next.pending.count) (meets_all w.meters (C x).meters) (o₁ w.ready x))
                (sym e.next.holds) d in
                let y = held s' state' in
                let d₂ = subst (λ (x : State hall). G x (ready_after w.ready x.pending.count) (meets_all w.meters (C y).meters) (o₁ w.ready y))
                (sym p.next.holds) d₁ in
                let d₃ = subst (λ (x : ℕ). G (held r.renderer c) (ready_after x r.renderer.pending) (meets_all w.meters (C y).meters) (o₁ x y)) (sym e.ready) d₂ in
                let d₄ = subst (λ (x : ℕ). G (held r.renderer c) x (meets_all w.meters (C y).meters) (o₁ w'.ready y)) (sym p.ready) d₃ in
                let m : meets_all w.meters (C y).meters ≡ r.meters = sym (p.meters ∙ ap (λ (x : Meters). meets_all x (C y).meters) e.meters) in
                let d₅ = subst (λ (x : Meters). G (held r.renderer c) r.ready x (o₁ w'.ready y)) m d₄ in
                record {
                  small = p.next.small ∙ e.next.small ∙ h.small;
                  setup = p.next.hall ∙ e.next.hall ∙ h.setup;
                  going = subst (G (held r.renderer c) r.ready r.meters) (sym p.given) d₅;
                }

-- a turn under way: the updates and the slot at t left w' and state', and n samples follow
pub record Turning (b : List ℕ) (a : Args) (kept own : Metadata) (t : ℕ) (w : Rendering) (state out : List ℕ) (end : ℕ) (w' : Rendering) (state' : List ℕ) (n : ℕ) : Type 0 where
  pub taken : Taken b a (both_sent kept own)
  pub running : Running b a (both_sent kept own) t w state out
  pub more : t < a.samples
  pub ends : end ≡ next_sent own t (next_sent kept t a.samples)
  pub begun : Leads (slotted hall (updated hall t (both_sent kept own) (held w.renderer state))) w state w' state'
  pub count : n ≡ run_length w'.renderer.state.initialized w'.renderer.clock.phase w'.renderer.pending (end - t)

module _ {b : List ℕ} {a : Args} {kept own : Metadata} {t : ℕ} {w : Rendering} {state out : List ℕ} {end : ℕ} {w' : Rendering} {state' : List ℕ} {n : ℕ}
    (u : Turning b a kept own t w state out end w' state' n) where
  abbrev s : Renderer714
  s = w'.renderer

  len : RunLength s.state.initialized s.clock.phase s.pending (end - t) n
  len =
      let f = few b a kept own u.taken t w state out u.running u.more end u.ends w' state' u.begun in
      let x = end_above b a kept own u.taken t w state out u.running u.more end u.ends in
      subst (RunLength s.state.initialized s.clock.phase s.pending (end - t)) (sym u.count)
      (run_length_is s.state.initialized s.clock.phase s.pending (end - t) f.0 f.1 (omega arith))

  -- the block has the hall that it began with
  pub turn_setup : setup_in state' ≡ setup_in b
  turn_setup = setup_beside b state' (u.begun.next.hall ∙ u.running.setup)

  pub turn_some : 0 < n
  turn_some = len.some

  pub turn_within : t + n ≤ a.samples
  turn_within = turn_fits b a kept own u.taken t w state out u.running u.more end u.ends w' state' u.begun n len

  pub turn_passes : Passable w' state' a.pcm out a.codes a.objects a.samples t n a.stride
  turn_passes = can_pass b a kept own u.taken t w state out u.running u.more end u.ends w' state' u.begun n len

  pub turn_runs : (r : Rendering) (c o : List ℕ) → Passes (frame_with hall (both_sent kept own) a) t n a.stride w' state' out r c o → Running b a (both_sent kept own) (t + n) r c o
  turn_runs r c o p = turns b a kept own u.taken t w state out u.running u.more end u.ends w' state' u.begun n len r c o p

  -- where its block was not laid and as many samples follow; c is the block with it
  pub turn_skips : (r : Rendering) (c o : List ℕ) → Passes (frame_with hall (both_sent kept own) a) t n a.stride w' state' out r c o → {ys : List Float} {pending k : ℕ}
      → Laid (marks_of (layout_of state')) ys pending k state' c → r.renderer.pending ≡ 0 → 64 ≤ a.samples - (t + n) → Running b a (both_sent kept own) (t + n) r state' o
  turn_skips r c o p y z m =
      let same : setup_in c ≡ setup_in state' = setup_beside state' c y.hall in
      let x = turn_runs r c o p in
      let g = x.going.ranged in
      let h = now_ranged b a kept own u.taken t w state out u.running u.more end u.ends w' state' u.begun in
      record {
        small = u.begun.next.small ∙ u.running.small;
        setup = u.begun.next.hall ∙ u.running.setup;
        going = subst (λ (y : State hall). Going hall block facts (decode b) (both_sent kept own) a (t + n) y r.ready r.meters o)
            (ap₂ (λ (is : List ℕ) (h : Setup). assembled r.renderer is (places_of state') h) y.infos same)
            (swapped hall block facts (decode b) (both_sent kept own) a (places_of state') (t + n) (held r.renderer c) r.ready r.meters o x.going z m
            (λ j q. stays_absent y j (sym (ap (λ (h : Setup). present h.layout j) same) ∙ q))
            (record {
              setup = g.setup;
              rate = g.rate;
              position = g.position;
              phase = g.phase;
              start = g.start;
              gain = g.gain;
              filter = g.filter;
              meta = g.meta;
              pending = g.pending;
              idle = g.idle;
              long = h.long;
              words = h.words;
              none = h.none;
            }));
      }

-- ---- after the last sample
pub rendered : (b : List ℕ) (a : Args) (us : List Sent) (t : ℕ) (w : Rendering) (state out : List ℕ) → Running b a us t w state out → a.samples ≤ t
    → IsRendered (pushed hall (frame_with hall us a) (decode b)) a.stride b a.out w state out
rendered b a us t w state out h last =
    let e = ends hall block facts (decode b) us a t (held w.renderer state) w.ready w.meters out h.going last in
    record { next = record { holds = e.0; small = h.small; hall = h.setup }; given = e.1; ready = e.2; meters = e.3 }
