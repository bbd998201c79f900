-- What an accepted push promises. Assumes nothing beyond `Facts`.
use mathlib.Core.Path.{◌≡◌, refl, sym, ap, ◌∙◌, subst}
use mathlib.Core.Logic.{inl, inr}
use mathlib.Core.Bool.{Bool, true, false, cond, ◌||◌}
use mathlib.Core.List.{List, []}
use Prim.Native.Nat.{ℕ, zero, suc, ◌+◌, ◌*◌, ◌/◌, ◌%◌, ◌<◌}
use native.Mathlib.Nat.{le_trans, le_of_eq, le_refl}
use native.Mathlib.Omega.{arith}
use borrow.Author.Tests.{eqb-true}
use lib.Dec.{T, eqb}
use lib.ListN.{length, get_or, get_or-eq_default}
use Rattle.ieee.specs.Bounds.{All}
use Rattle.words.specs.Words.{Bytes}
use Rattle.ieee.proofs.Grid.{le_or_lt}
use Rattle.panning.specs.Table.{between, 8·0}
use Rattle.panning.specs.Setup.{HallFits}
use Rattle.rules.specs.Parts.{0·0}
use Rattle.rules.specs.Leaves.{Leaves, Source, Bed, started}
use Rattle.rules.specs.Mix.{Moment, fed}
use Rattle.rules.specs.Samples.{Frame, State, slotted, updated, sampled, framed, opened, pushed}
use Rattle.rules.specs.Refusals.{Args, Found, clear, unless}
use Rattle.rules.specs.Calls.{updates_in, frame_of, found, asked}
use Rattle.rules.specs.Sounds.{silent, before, met, moment_at, whole}
use Rattle.rules.specs.Promises.{count_on, nobody, unsent, Replaced, with_pcm, object_heard, begun, Matched, AtSample, PushHolds}
use Rattle.rules.specs.BlockCalls.{Layout}
use Rattle.rules.proofs.EachOf.{all_at}
use Rattle.rules.proofs.Owed.{InHall, Facts}
use Rattle.rules.proofs.Judged.{Passed, is_passed, then_clear, unless_clear}
use Rattle.rules.proofs.Invariant.{Good, Rest, Admitted, Fine, opened_good}
use Rattle.rules.proofs.Frames.{admitted, rest_kept, pushed_fine}
use Rattle.rules.proofs.Clock.{untouched, setup_kept, waits_kept, Alike, alike_self, met_alike, passed_alike}
use Rattle.rules.proofs.Moments.{moment_of, moments_count, next_at, moment_at_is}
use Rattle.rules.proofs.Order.{updated_in_order}
use Rattle.rules.proofs.OneMore.{moment_is}
use Rattle.rules.proofs.Sounding.{hearable_at, line, sounds_at, enters_at}
use Rattle.rules.proofs.PushShapes.{started_at, count_there, objects_there, beds_there}
use Rattle.rules.proofs.Quiet as silence
use Rattle.rules.proofs.Quiet.{Hush}
use Rattle.rules.proofs.Sends.{sent_alone, send_zero}
use Rattle.rules.proofs.Bass.{same_bass, row_before, same_own, still_clear}
use Rattle.rules.proofs.Energy.{squared, stilled}
use Rattle.rules.proofs.BedsHeard.{beds_heard}
use Rattle.rules.proofs.Absent.{bed_absent, object_absent}
use Rattle.rules.proofs.Unread.{framed_kept}
use Rattle.rules.proofs.Holds.{holding}

-- whole blocks and the remainder
halves : (blocks left all : ℕ) → 64 * blocks + left ≡ all → left < 64 → (blocks ≡ all / 64) × (left ≡ all % 64)
halves blocks left all e h = omega arith

module _ (L : Leaves) (B : Layout L) (F : Facts L B) (r : State L) (a : Args) (b : Bytes a.pcm) (m : Bytes a.meta) (rest : Rest L B F r) (e : found L r a ≡ clear) where
  abbrev f : Frame L.Update
  f = frame_of L r a

  abbrev start : State L
  start = opened L a.rate r

  pub passes : Passed L r a
  passes = is_passed L r a e

  pub k : Admitted L B F f
  k = admitted L B F r a b m passes (rest_kept L B F r rest)

  pub good : Good L B F start
  good = opened_good L B F a.rate r k.rate rest

  fine : Fine L B F r.setup r.pending.count a.samples (pushed L f r)
  fine = pushed_fine L B F r a b m passes rest

  counts : (fine.blocks ≡ whole L r a) × ((pushed L f r).next.pending.count ≡ (r.pending.count + a.samples) % 64)
  counts = halves fine.blocks (pushed L f r).next.pending.count (r.pending.count + a.samples) fine.all fine.next.steady.few

  count : length (pushed L f r).moments ≡ a.samples
  unfolding pushed
  count = moments_count L f a.samples 0 start

  -- refusal 9
  pub at_rate : start.rate ≡ a.rate
  at_rate =
      let x = eqb r.rate 0 || eqb r.rate a.rate in
      go (eqb r.rate 0) (unless_clear x 9 r.rate a.rate (then_clear (unless x 9 r.rate a.rate) _ passes.later).0)
    where
      go : (first : Bool) → (first || eqb r.rate a.rate) ≡ true → cond first a.rate r.rate ≡ a.rate
      go true e = refl
      go false e = eqb-true r.rate a.rate e

  -- ---- sample t
  module _ (hush : Hush L r) (t : ℕ) (h : t < a.samples) where
    abbrev heard_at : moment_at L r a t ≡ moment_of L f t (before L r a t)
    heard_at = moment_is L r a t h

    begun_at : started L (met L r a t).meta ≡ begun L r a t
    begun_at = started_at L B F r a passes k good t h

    objects_are : (moment_at L r a t).objects ≡ cond (begun L r a t) (L.objects (met L r a t).meta) []
    objects_are = ap (λ (x : Moment). x.objects) heard_at ∙ ap (λ (b : Bool). cond b (L.objects (met L r a t).meta) []) begun_at

    beds_are : (moment_at L r a t).beds ≡ cond (begun L r a t) (L.beds (met L r a t).meta) []
    beds_are = ap (λ (x : Moment). x.beds) heard_at ∙ ap (λ (b : Bool). cond b (L.beds (met L r a t).meta) []) begun_at

    at_sample : AtSample L r a t
    at_sample =
        record {
          hall = ap (λ (x : Moment). x.hall) heard_at ∙ (untouched L t f.updates (before L r a t)).setup ∙ setup_kept L f t 0 start;
          finds = ap (slotted L) (updated_in_order L t (updates_in L r a) (before L r a t));
          beds = beds_are;
          objects = objects_are;
          codes = ap (λ (x : Moment). x.codes) heard_at;
          inputs = λ i. ap (λ (x : Moment). x.inputs i) heard_at;
          own = ap (λ (x : Moment). x.own) heard_at;
          matched = subst (All (Matched a.codes)) (sym beds_are) (beds_there L B F r a passes k good t h);
          count = ap (length {A = Source}) objects_are ∙ objects_there L B F r a passes k good t h;
          enters = enters_at L B F r a k good at_rate t h;
          sounds = sounds_at L B F r a k good at_rate t h;
          absent = framed_kept L f (suc t) 0 start;
          quiet = silence.quiet L B F r a passes k good at_rate hush t h;
        }

  -- ---- every object that is there is one of the hall
  hall : (t : ℕ) → All InHall (moment_at L r a t).objects
  hall t = elim (le_or_lt a.samples t) [
    | inl l ↦ subst (λ (x : Moment). All InHall x.objects) (sym (get_or-eq_default (pushed L f r).moments (silent r.setup) (le_trans (le_of_eq count) l))) tt
    | inr h ↦ (hearable_at L B F r a k good at_rate t h).sources.objects
  ]

  -- and every bed has a gain from 0 to 8
  bed_gains : (t : ℕ) → All (λ (b : Bed). T (between 0·0 8·0 b.gain)) (moment_at L r a t).beds
  bed_gains t = elim (le_or_lt a.samples t) [
    | inl l ↦ subst (λ (x : Moment). All (λ (b : Bed). T (between 0·0 8·0 b.gain)) x.beds)
        (sym (get_or-eq_default (pushed L f r).moments (silent r.setup) (le_trans (le_of_eq count) l))) tt
    | inr h ↦ (hearable_at L B F r a k good at_rate t h).sources.beds
  ]

  fits_at : (t : ℕ) → HallFits (moment_at L r a t).hall
  fits_at t = elim (le_or_lt a.samples t) [
    | inl l ↦ subst (λ (x : Moment). HallFits x.hall) (sym (get_or-eq_default (pushed L f r).moments (silent r.setup) (le_trans (le_of_eq count) l))) good.steady.hall
    | inr h ↦ (hearable_at L B F r a k good at_rate t h).hall
  ]

  in_hall : (t j : ℕ) → j < length (moment_at L r a t).objects → InHall (object_heard L r a t j)
  in_hall t j h = all_at InHall (moment_at L r a t).objects j nobody h (hall t)

  -- ---- the bass feed
  module _ (j : ℕ) (qcm : List ℕ) (p : Replaced a.samples (length a.codes + j) a.pcm qcm) where
    abbrev g : Frame L.Update
    g = frame_of L r (with_pcm qcm a)

    alike : (t : ℕ) → Alike L (framed L f t 0 start).next (framed L g t 0 start).next
    alike zero = alike_self L start
    alike (suc t) =
        let s = (framed L f t 0 start).next in
        let u = (framed L g t 0 start).next in
        subst (λ (x : State L). Alike L x (framed L g (suc t) 0 start).next) (sym (next_at L f start t))
        (subst (Alike L (sampled L f t s).next) (sym (next_at L g start t))
        (passed_alike L (moment_of L f t s) (moment_of L g t u) (slotted L (updated L t f.updates s)) (slotted L (updated L t f.updates u))
        (met_alike L t f.updates s u (alike t))))

    fed_same : (t : ℕ) → t < a.samples → T (unsent (object_heard L r a t j)) → fed (moment_at L r (with_pcm qcm a) t) ≡ fed (moment_at L r a t)
    unfolding pushed
    fed_same t h z =
        let s = (framed L f t 0 start).next in
        let u = (framed L g t 0 start).next in
        let q = (met_alike L t f.updates s u (alike t)).meta in
        let i = hearable_at L B F r a k good at_rate t h in
        let here = moment_is L r a t h in
        ap fed (moment_at_is L g start a.samples t (silent r.setup) h)
        ∙ sym (same_bass (moment_of L f t s) (moment_of L g t u)
        (record {
          hall = (met_alike L t f.updates s u (alike t)).setup;
          beds = λ z. cond (started L (q z)) (L.beds (q z)) [];
          objects = λ z. cond (started L (q z)) (L.objects (q z)) [];
          codes = refl;
          inputs = λ c l. sym (row_before a.samples (length a.codes + j) a.pcm qcm p c t (omega arith) h);
          own = same_own a.samples (length a.codes + j) a.pcm qcm p t h (moment_of L f t s).objects a.objects (length a.codes)
              (λ d e. subst (λ (k : ℕ). T (unsent (get_or (moment_of L f t s).objects k nobody))) (let q : j ≡ d = omega (arith, e) in q)
              (subst (λ (x : Moment). T (unsent (get_or x.objects j nobody))) here z));
        })
        (subst (λ (x : Moment). HallFits x.hall) here i.hall) (subst (λ (x : Moment). All InHall x.objects) here i.sources.objects))
        ∙ ap fed (sym here)

  -- after the last sample
  numbers_after : (n : ℕ) → n ≡ a.samples → 0 < n → let m = (before L r a n).meta in started L m ≡ true → (L.shape m).objects ≡ a.objects
  numbers_after zero q h = absurd (omega arith)
  numbers_after (suc t) q h =
      subst (λ (x : State L). started L x.meta ≡ true → (L.shape x.meta).objects ≡ a.objects) (sym (next_at L f start t))
      (count_there L B F r a passes k good t (omega arith))

  pub push_holds : Hush L r → PushHolds L r a
  unfolding pushed
  push_holds hush =
      let i = line L B F r a k good at_rate a.samples (le_refl a.samples) in
      record {
        answer = ap (λ (v : Found). (asked L v a r).answer) e;
        next = ap (λ (v : Found). (asked L v a r).next) e;
        ahead = waits_kept L f a.samples 0 start;
        setup = setup_kept L f a.samples 0 start;
        ready = λ c l. fine.length c l ∙ ap (λ (n : ℕ). count_on r.setup (64 * n) c) counts.0;
        waits = counts.1;
        position = i.position;
        rate = i.rate;
        gives = i.given;
        gain = i.gain;
        meters = i.meters;
        within = fine.within;
        rest = i.waits;
        moments = count;
        samples = at_sample hush;
        numbers = numbers_after a.samples refl;
        holds = λ d l. holding L B F r a passes k d l good;
        bass = λ t j h l z qcm p. (still_clear L r a (length a.codes + j) qcm p e, fed_same j qcm p t h z);
        sends = λ t j h. sent_alone (object_heard L r a t j) (in_hall t j h) r.setup good.steady.hall;
        alone = λ t z. send_zero (moment_at L r a t) (fits_at t) (hall t) z;
        put_out = λ t. beds_heard r.setup good.steady.hall (moment_at L r a t).beds (bed_gains t);
        beds_absent = λ c away b. bed_absent r.setup good.steady.hall c (subst T away) b;
        objects_absent = λ c away t j h. object_absent r.setup good.steady.hall c (subst T away) (object_heard L r a t j) (in_hall t j h).place;
        squares = λ t j h z. squared r.setup good.steady.hall (object_heard L r a t j) (in_hall t j h) z;
        still = λ t j h z. stilled r.setup good.steady.hall (object_heard L r a t j) (in_hall t j h) z;
      }

  pub hush_pushed : Hush L r → Hush L (pushed L f r).next
  hush_pushed hush = silence.hush_pushed L B F r a passes k good at_rate hush
