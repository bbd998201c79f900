-- The low-pass along a list of calls: it is a new one that was fed what its pushes fed, so its outputs are at most twice the largest of that, and it
-- forgets a loud past in time. Assumes nothing beyond `Facts`.
use mathlib.Core.Path.{◌≡◌, refl, sym, ap, ◌∙◌, subst}
use mathlib.Core.Logic.{◌⊎◌, inl, inr}
use mathlib.Core.Bool.{Bool, true, false, cond}
use mathlib.Core.List.{List, [], ◌∷◌, ◌++◌, map, append-nil, append_assoc}
use Prim.Native.Nat.{ℕ, zero, suc, ◌≤◌, ◌<◌}
use native.Mathlib.Nat.{le_trans, le_of_eq, le_of_lt, le_refl, not-suc-le-zero}
use native.Mathlib.Omega.{arith}
use borrow.Author.Tests.{eq-eqb, ne_eqb}
use lib.Dec.{eqb, ltb}
use lib.ListN.{length, take, get_or-map}
use lib.Seq.{take-suc, take_all}
use lib.Ieee.{Float}
use Rattle.words.specs.Words.{Bytes}
use Rattle.ieee.specs.Bounds.{Bounded, All}
use Rattle.angles.specs.Angle.{Listed}
use Rattle.lowpass.specs.Lowpass.{next, new, after_all}
use Rattle.lowpass.specs.declared.BiquadLowpassState.{BiquadLowpassState}
use Rattle.lowpass.proofs.Theorems.{within_back, fed_more, lowpass_twice, lowpass_forgets}
use Rattle.panning.specs.Setup.{Setup, hall_with}
use Rattle.rules.specs.Leaves.{Leaves}
use Rattle.rules.specs.Mix.{fed}
use Rattle.rules.specs.Samples.{State, idle, fresh, opened, pushed, flushed}
use Rattle.rules.specs.Refusals.{Args, Found, clear, stop, room}
use Rattle.rules.specs.Making.{hall_of, layout_found, table_found}
use Rattle.rules.specs.Calls.{Call, push, flush, reset, make, make_with, mark, find, is_refused, frame_of, found, numbered, alike_marks, asked, drained, making, marking, step}
use Rattle.rules.specs.Sounds.{silent, before, moment_at, sound_at}
use Rattle.rules.specs.Ringing.{fed_since, Rings, CallRings}
use Rattle.rules.specs.BlockCalls.{Layout}
use Rattle.rules.specs.Demand3.{Lent}
use Rattle.rules.proofs.EachOf.{all_append, length_map}
use Rattle.rules.proofs.Owed.{Facts}
use Rattle.rules.proofs.Invariant.{Admitted, Rest}
use Rattle.rules.proofs.Moments.{moments_count}
use Rattle.rules.proofs.ChannelBound.{Most, most_modest, heard_bounded}
use Rattle.rules.proofs.Sounding.{hearable_at, line, enters_at}
use Rattle.rules.proofs.Pushes as pushes

module _ (L : Leaves) where
  -- between calls: nothing was fed yet, or the filter is a new one that was fed xs
  abbrev Since : List Float → State L → Type 0
  Since xs r = ((r.rate ≡ 0) × (xs ≡ []) × (r.filter ≡ idle)) ⊎ (Listed r.rate × (r.filter ≡ after_all (new r.rate) xs))

  pub record Fed (xs : List Float) (r : State L) : Type 0 where
    pub modest : All (Bounded Most) xs
    pub since : Since xs r

  pub fresh_fed : (h : Setup) → Fed [] (fresh L h)
  fresh_fed h = record { modest = tt; since = inl (refl, refl, refl) }

  module _ (B : Layout L) (F : Facts L B) (xs : List Float) (r : State L) where
    -- ---- a push that is accepted
    module _ (a : Args) (b : Bytes a.pcm) (m : Bytes a.meta) (rest : Rest L B F r) (e : found L r a ≡ clear) (was : Fed xs r) where
      abbrev fs : List Float
      fs = map fed (pushed L (frame_of L r a) r).moments

      abbrev up_to : ℕ → List Float
      up_to t = xs ++ take t fs

      k : Admitted L B F (frame_of L r a)
      k = pushes.k L B F r a b m rest e

      long : length fs ≡ a.samples
      unfolding pushed
      long = length_map fed (pushed L (frame_of L r a) r).moments ∙ moments_count L (frame_of L r a) a.samples 0 (opened L a.rate r)

      one_more : (t : ℕ) → t < a.samples → up_to (suc t) ≡ up_to t ++ (fed (moment_at L r a t) ∷ [])
      one_more t h =
          ap (λ (ys : List Float). xs ++ ys)
          (take-suc fs t (fed (silent r.setup)) (le_trans h (le_of_eq (sym long)))
          ∙ ap (λ (x : Float). take t fs ++ (x ∷ [])) (get_or-map fed (pushed L (frame_of L r a) r).moments t (silent r.setup)))
          ∙ sym (append_assoc xs (take t fs) (fed (moment_at L r a t) ∷ []))

      opened_filter : Since xs r → (opened L a.rate r).filter ≡ after_all (new a.rate) xs
      opened_filter (inl s) = ap (λ (first : Bool). cond first (new a.rate) r.filter) (eq-eqb r.rate 0 s.0) ∙ ap (after_all (new a.rate)) (sym s.1)
      opened_filter (inr s) =
          let low = s.0.low in
          let later = ne_eqb r.rate 0 (λ z. omega arith) in
          let same : r.rate ≡ a.rate = ap (λ (first : Bool). cond first a.rate r.rate) (sym later) ∙ pushes.at_rate L B F r a b m rest e in
          ap (λ (first : Bool). cond first (new a.rate) r.filter) later ∙ s.1 ∙ ap (λ (n : ℕ). after_all (new n) xs) same

      filter_at : (t : ℕ) → t ≤ a.samples → (before L r a t).filter ≡ after_all (new a.rate) (up_to t)
      filter_at zero h = opened_filter was.since ∙ ap (after_all (new a.rate)) (sym (append-nil xs))
      filter_at (suc t) h =
          let x = fed (moment_at L r a t) in
          enters_at L B F r a k (pushes.good L B F r a b m rest e) (pushes.at_rate L B F r a b m rest e) t h
          ∙ ap (λ (f : BiquadLowpassState). next f x) (filter_at t (le_of_lt h))
          ∙ sym (fed_more (new a.rate) (up_to t) x) ∙ ap (after_all (new a.rate)) (sym (one_more t h))

      modest_at : (t : ℕ) → t ≤ a.samples → All (Bounded Most) (up_to t)
      modest_at zero h = subst (All (Bounded Most)) (sym (append-nil xs)) was.modest
      modest_at (suc t) h =
          let i = hearable_at L B F r a k (pushes.good L B F r a b m rest e) (pushes.at_rate L B F r a b m rest e) t h in
          subst (All (Bounded Most)) (sym (one_more t h))
          (all_append (Bounded Most) (up_to t) (fed (moment_at L r a t) ∷ []) (modest_at t (le_of_lt h)) (heard_bounded (moment_at L r a t) i 3, tt))

      -- what holds of the filter's last output, of the sound
      gives : (t : ℕ) → t < a.samples → {X : ℕ} → Bounded X (after_all (new a.rate) (up_to (suc t))).y1 → Bounded X (sound_at L r a 3 t)
      gives t n {X} =
          subst (λ (f : BiquadLowpassState). Bounded X f.y1)
          (sym (filter_at (suc t) n) ∙ enters_at L B F r a k (pushes.good L B F r a b m rest e) (pushes.at_rate L B F r a b m rest e) t n)

      rings : (t : ℕ) → t < length fs → Rings L r a t (up_to (suc t))
      rings t h =
          let n : t < a.samples = le_trans h (le_of_eq long) in
          let ys = within_back (up_to (suc t)) (modest_at (suc t) n) in
          record {
            filter = filter_at (suc t) n;
            twice = λ q. gives t n (lowpass_twice k.rate (up_to (suc t)) ys.0 q);
            forgets = λ j X q. gives t n (lowpass_forgets k.rate j X (up_to (suc t)) ys.0 q);
            modest = le_trans ys.1 most_modest;
          }

      all_fed : up_to a.samples ≡ xs ++ fs
      all_fed = ap (λ (ys : List Float). xs ++ ys) (take_all a.samples fs (le_of_eq long))

      pushed_fed : Fed (xs ++ fs) (pushed L (frame_of L r a) r).next
      unfolding pushed
      pushed_fed =
          let n = le_refl a.samples in
          let rate = (line L B F r a k (pushes.good L B F r a b m rest e) (pushes.at_rate L B F r a b m rest e) a.samples n).rate in
          record {
            modest = subst (All (Bounded Most)) all_fed (modest_at a.samples n);
            since = inr (
              subst Listed (sym rate) k.rate,
              filter_at a.samples n ∙ ap (after_all (new a.rate)) all_fed ∙ ap (λ (n : ℕ). after_all (new n) (xs ++ fs)) (sym rate),
            );
          }

    -- ---- any call
    none_more : Fed xs r → Fed (xs ++ []) r
    none_more = subst (λ (ys : List Float). Fed ys r) (sym (append-nil xs))

    asked_rings : (a : Args) → Lent (push a) → Rest L B F r → Fed xs r → (v : Found) → found L r a ≡ v → let fs = map fed (asked L v a r).moments in (t : ℕ) → t < length fs
        → Rings L r a t (xs ++ take (suc t) fs)
    asked_rings a h rest was (stop n x y) e t u = absurd (not-suc-le-zero u)
    asked_rings a h rest was clear e t u = rings a h.0 h.1 rest e was t u

    asked_fed : (a : Args) → Lent (push a) → Rest L B F r → Fed xs r → (v : Found) → found L r a ≡ v → Fed (xs ++ map fed (asked L v a r).moments) (asked L v a r).next
    asked_fed a h rest was (stop n x y) e = none_more was
    asked_fed a h rest was clear e = let x = pushed_fed a h.0 h.1 rest e was in record { modest = x.modest; since = x.since }

    drained_fed : (t e : Bool) → Fed xs r → Fed xs (drained L t e r).next
    unfolding flushed
    drained_fed false e was = was
    drained_fed true true was = was
    drained_fed true false was = record { modest = was.modest; since = was.since }

    made_fed : (v : Found) (h : Setup) → Fed xs r → Fed (cond (is_refused (making L v h r).answer) xs []) (making L v h r).next
    made_fed (stop n x y) h was = was
    made_fed clear h was = fresh_fed h

    marking_fed : (v known w : Bool) (d : ℕ) → Fed xs r → Fed xs (marking L v known w d r).next
    marking_fed false known w d was = was
    marking_fed true true w d was = was
    marking_fed true false w d was = record { modest = was.modest; since = was.since }

    pub call_rings : (c : Call) → Lent c → Rest L B F r → Fed xs r → CallRings L xs r c
    call_rings (push a) h rest was = asked_rings a h rest was (found L r a) refl
    call_rings (flush out stride) h rest was = tt
    call_rings reset h rest was = tt
    call_rings (make n) h rest was = tt
    call_rings (make_with n t) h rest was = tt
    call_rings (mark w d) h rest was = tt
    call_rings (find m) h rest was = tt

    pub step_fed : (c : Call) → Lent c → Rest L B F r → Fed xs r → Fed (fed_since L xs r c) (step L r c).next
    step_fed (push a) h rest was = asked_fed a h rest was (found L r a) refl
    step_fed (flush out stride) h rest was = drained_fed (room stride (length out)) (eqb r.pending.count 0) was
    step_fed reset h rest was = fresh_fed r.setup
    step_fed (make n) h rest was = made_fed (layout_found n) (hall_with n) was
    step_fed (make_with n t) h rest was = made_fed (table_found n t) (hall_of n t) was
    step_fed (mark w d) h rest was = marking_fed (ltb d (numbered L r)) (alike_marks w (L.wants d r.meta)) w d was
    step_fed (find m) h rest was = was
