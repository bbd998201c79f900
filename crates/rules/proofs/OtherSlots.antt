-- Where a slot does the same to every timed state that calls without an accepted hold can leave, all calls do. Assumes nothing.
use Prim.Native.Nat.{ℕ, zero, suc}
use mathlib.Core.Path.{◌≡◌, refl, ap, ap₂, ◌∙◌, subst}
use mathlib.Core.Bool.{Bool, true, false, cond, not, ◌&&◌, ◌||◌, true≢false}
use mathlib.Core.List.{List, [], ◌∷◌, ◌++◌}
use lib.Dec.{T, eqb, ltb}
use lib.ListN.{length}
use Rattle.limiter.specs.declared.meters.Meters.{Meters}
use Rattle.limiter.specs.Meters.{call_meters}
use Rattle.panning.specs.Setup.{Setup, hall_with}
use Rattle.rules.specs.Parts.{Channels, joined}
use Rattle.rules.specs.Leaves.{Leaves, started}
use Rattle.rules.specs.Mix.{Moment}
use Rattle.rules.specs.Samples.{Frame, State, applied_at, updated, slotted, moment, After, passed, sampled, framed, opened, pushed, flushed}
use Rattle.rules.specs.Refusals.{Args, Found, clear, stop, room}
use Rattle.rules.specs.Making.{hall_of, layout_found, table_found}
use Rattle.rules.specs.Calls.{Call, push, flush, reset, make, make_with, mark, find, is_refused, rendered, with_waits, ahead_after, frame_of, found, numbered, alike_marks, asked, drained, making, marking, step, run}
use Rattle.rules.specs.OtherSlots.{with_slot, asks_hold, NoHold, SameResult, SameResults}

module _ (L : Leaves) (s : ℕ → L.Meta → L.Meta) (Free : L.Meta → Type 0)
    (blank : Free L.blank)
    (applies : (n : ℕ) (u : L.Update) (m : L.Meta) → Free m → Free (L.apply n u m))
    (slots : (n : ℕ) (m : L.Meta) → Free m → Free (L.slot n m))
    (unwanted : (d : ℕ) (m : L.Meta) → Free m → L.wants d m ≡ false)
    (same : (n : ℕ) (m : L.Meta) → Free m → L.slot n m ≡ s n m) where
  abbrev K : Leaves
  K = with_slot L s

  -- ---- updates and slots

  updated_same : (t : ℕ) (us : List L.Update) (r : State L) → updated L t us r ≡ updated K t us r
  updated_same t [] r = refl
  updated_same t (u ∷ us) r = updated_same t us (cond (eqb (L.offset u) t) (applied_at L t u r) r)

  updated_free : (t : ℕ) (us : List L.Update) (r : State L) → Free r.meta → Free (updated L t us r).meta
  updated_free t [] r f = f
  updated_free t (u ∷ us) r f = updated_free t us (cond (eqb (L.offset u) t) (applied_at L t u r) r) (by (eqb (L.offset u) t))
    where
      by : (q : Bool) → Free (cond q (applied_at L t u r) r).meta
      by true = applies r.clock.position u r.meta f
      by false = f

  slotted_same : (r : State L) → Free r.meta → slotted L r ≡ slotted K r
  slotted_same r f = λ j.
      record {
        setup = r.setup;
        rate = r.rate;
        clock = r.clock;
        limiter = r.limiter;
        filter = r.filter;
        meta = cond (started L r.meta && eqb r.clock.phase 0) (same r.clock.start r.meta f j) r.meta;
        pending = r.pending;
        waits = r.waits;
      }

  slotted_free : (r : State L) → Free r.meta → Free (slotted L r).meta
  slotted_free r f = by (started L r.meta && eqb r.clock.phase 0)
    where
      by : (q : Bool) → Free (cond q (L.slot r.clock.start r.meta) r.meta)
      by true = slots r.clock.start r.meta f
      by false = f

  -- ---- samples

  record SameAfter (x : After L) (y : After K) : Type 0 where
    next : x.next ≡ y.next
    given : x.given ≡ y.given
    meters : x.meters ≡ y.meters
    moments : x.moments ≡ y.moments

  sampled_same : (f : Frame L.Update) (t : ℕ) (r : State L) → Free r.meta → SameAfter (sampled L f t r) (sampled K f t r)
  sampled_same f t r g =
      let q = updated L t f.updates r in
      let here : (x : State L) → SameAfter (passed L (moment L f t x.setup x.meta) x) (passed K (moment K f t x.setup x.meta) x) = λ x.
      record { next = refl; given = refl; meters = refl; moments = refl } in
      let at : slotted L q ≡ slotted K (updated K t f.updates r) = slotted_same q (updated_free t f.updates r g) ∙ ap (slotted K) (updated_same t f.updates r) in
      subst (λ (x : State L). SameAfter (sampled L f t r) (passed K (moment K f t x.setup x.meta) x)) at (here (slotted L q))

  sampled_free : (f : Frame L.Update) (t : ℕ) (r : State L) → Free r.meta → Free (sampled L f t r).next.meta
  sampled_free f t r g = slotted_free (updated L t f.updates r) (updated_free t f.updates r g)

  framed_same : (f : Frame L.Update) (n t : ℕ) (r : State L) → Free r.meta → SameAfter (framed L f n t r) (framed K f n t r)
  framed_same f zero t r g = record { next = refl; given = refl; meters = refl; moments = refl }
  framed_same f (suc n) t r g =
      let a = sampled L f t r in
      let h = sampled_same f t r g in
      let d = subst (λ (x : State L). SameAfter (framed L f n (suc t) a.next) (framed K f n (suc t) x)) h.next (framed_same f n (suc t) a.next (sampled_free f t r g)) in
      record {
        next = d.next;
        given = ap₂ joined h.given d.given;
        meters = ap₂ (λ (x y : List Meters). x ++ y) h.meters d.meters;
        moments = ap₂ (λ (x y : List Moment). x ++ y) h.moments d.moments;
      }

  framed_free : (f : Frame L.Update) (n t : ℕ) (r : State L) → Free r.meta → Free (framed L f n t r).next.meta
  framed_free f zero t r g = g
  framed_free f (suc n) t r g = framed_free f n (suc t) (sampled L f t r).next (sampled_free f t r g)

  -- ---- calls

  asked_same : (v : Found) (a : Args) (r : State L) → Free r.meta → SameResult L s (asked L v a r) (asked K v a r)
  unfolding pushed
  asked_same (stop n x y) a r g = record { answer = refl; next = refl; moments = refl }
  asked_same clear a r g =
      let d = framed_same (frame_of L r a) a.samples 0 (opened L a.rate r) g in
      record { answer = ap₂ (λ (x : Channels) (m : List Meters). rendered x (call_meters m)) d.given d.meters; next = ap (with_waits L (ahead_after L r a)) d.next; moments = d.moments }

  asked_free : (v : Found) (a : Args) (r : State L) → Free r.meta → Free (asked L v a r).next.meta
  unfolding pushed
  asked_free (stop n x y) a r g = g
  asked_free clear a r g = framed_free (frame_of L r a) a.samples 0 (opened L a.rate r) g

  drained_same : (t e : Bool) (r : State L) → SameResult L s (drained L t e r) (drained K t e r)
  unfolding flushed
  drained_same false e r = record { answer = refl; next = refl; moments = refl }
  drained_same true true r = record { answer = refl; next = refl; moments = refl }
  drained_same true false r = record { answer = refl; next = refl; moments = refl }

  drained_free : (t e : Bool) (r : State L) → Free r.meta → Free (drained L t e r).next.meta
  unfolding flushed
  drained_free false e r g = g
  drained_free true true r g = g
  drained_free true false r g = g

  making_same : (v : Found) (h : Setup) (r : State L) → SameResult L s (making L v h r) (making K v h r)
  making_same (stop n x y) h r = record { answer = refl; next = refl; moments = refl }
  making_same clear h r = record { answer = refl; next = refl; moments = refl }

  making_free : (v : Found) (h : Setup) (r : State L) → Free r.meta → Free (making L v h r).next.meta
  making_free (stop n x y) h r g = g
  making_free clear h r g = blank

  marking_same : (v known w : Bool) (d : ℕ) (r : State L) → SameResult L s (marking L v known w d r) (marking K v known w d r)
  marking_same false known w d r = record { answer = refl; next = refl; moments = refl }
  marking_same true true w d r = record { answer = refl; next = refl; moments = refl }
  marking_same true false w d r = record { answer = refl; next = refl; moments = refl }

  -- a release without a hold changes nothing
  marking_free : (v w : Bool) (d : ℕ) (r : State L) → T (is_refused (marking L v (alike_marks w (L.wants d r.meta)) w d r).answer || not w) → Free r.meta
      → Free (marking L v (alike_marks w (L.wants d r.meta)) w d r).next.meta
  marking_free false w d r h g = g
  marking_free true true d r h g = by (L.wants d r.meta) h
    where
      by : (b : Bool) → T (is_refused (marking L true b true d r).answer || false) → Free (marking L true b true d r).next.meta
      by true h = g
      by false h = absurd h
  marking_free true false d r h g = by (L.wants d r.meta) (unwanted d r.meta g)
    where
      by : (b : Bool) → b ≡ false → Free (marking L true (not b) false d r).next.meta
      by true e = absurd (true≢false e)
      by false e = g

  step_same : (r : State L) (c : Call) → Free r.meta → SameResult L s (step L r c) (step K r c)
  step_same r (push a) g = asked_same (found L r a) a r g
  step_same r (flush out stride) g = drained_same (room stride (length out)) (eqb r.pending.count 0) r
  step_same r reset g = record { answer = refl; next = refl; moments = refl }
  step_same r (make n) g = making_same (layout_found n) (hall_with n) r
  step_same r (make_with n t) g = making_same (table_found n t) (hall_of n t) r
  step_same r (mark w d) g = marking_same (ltb d (numbered L r)) (alike_marks w (L.wants d r.meta)) w d r
  step_same r (find m) g = record { answer = refl; next = refl; moments = refl }

  step_free : (r : State L) (c : Call) → T (is_refused (step L r c).answer || not (asks_hold c)) → Free r.meta → Free (step L r c).next.meta
  step_free r (push a) h g = asked_free (found L r a) a r g
  step_free r (flush out stride) h g = drained_free (room stride (length out)) (eqb r.pending.count 0) r g
  step_free r reset h g = blank
  step_free r (make n) h g = making_free (layout_found n) (hall_with n) r g
  step_free r (make_with n t) h g = making_free (table_found n t) (hall_of n t) r g
  step_free r (mark w d) h g = marking_free (ltb d (numbered L r)) w d r h g
  step_free r (find m) h g = g

  pub calls_same : (r : State L) (cs : List Call) → Free r.meta → NoHold L r cs → SameResults L s (run L r cs) (run K r cs)
  calls_same r [] g h = tt
  calls_same r (c ∷ cs) g h =
      let x = step_same r c g in
      (x, subst (λ (y : State L). SameResults L s (run L (step L r c).next cs) (run K y cs)) x.next (calls_same (step L r c).next cs (step_free r c h.0 g) h.1))
