-- R-11 along an accepted push: what is asked for lasts, and an object with a hold asked for stays where it is, unless the push changes the number of objects, which ends all
-- holds. Assumes nothing beyond `Facts`.
use mathlib.Core.Path.{◌≡◌, refl, sym, ap, ◌∙◌, subst}
use mathlib.Core.Bool.{Bool, true, false, cond, ◌&&◌, ◌||◌, or-false, or-true}
use mathlib.Core.List.{List, [], ◌∷◌}
use Prim.Native.Nat.{ℕ, zero, suc, ◌≤◌, ◌<◌}
use native.Mathlib.Nat.{le_of_lt, le_refl, le_of_eq, le_trans}
use native.Mathlib.Omega.{arith}
use borrow.Author.Tests.{leb-true, le-leb}
use lib.Dec.{T, eqb, leb}
use lib.ListN.{get_or}
use Rattle.ieee.specs.Bounds.{All}
use Rattle.rules.specs.Leaves.{Leaves, Source, Shape, started}
use Rattle.rules.specs.Mix.{Moment}
use Rattle.rules.specs.Samples.{State, applied_at, updated, slotted, sampled, opened, pushed}
use Rattle.rules.specs.Refusals.{Args, Announced, clear, objects_match, counts_at}
use Rattle.rules.specs.Calls.{updates_in, announced, frame_of}
use Rattle.rules.specs.Sounds.{before, met}
use Rattle.rules.specs.Promises.{nobody, object_in, object_heard, up_to, begun, Holding}
use Rattle.rules.specs.BlockCalls.{Layout}
use Rattle.rules.proofs.EachOf.{either}
use Rattle.rules.proofs.Owed.{Facts}
use Rattle.rules.proofs.Judged.{Passed, then_clear}
use Rattle.rules.proofs.Invariant.{Good, Admitted, updated_good}
use Rattle.rules.proofs.Frames.{sampled_fine}
use Rattle.rules.proofs.Begun.{at, first_at, next_at}
use Rattle.rules.proofs.PushShapes.{match_clear, judged, started_at}
use Rattle.rules.proofs.Moments.{along}
use Rattle.rules.proofs.OneMore.{moment_is}

module _ (L : Leaves) (B : Layout L) (F : Facts L B) (r : State L) (a : Args) (p : Passed L r a) (k : Admitted L B F (frame_of L r a)) (d : ℕ) (l : d < a.objects) where
  abbrev us : List L.Update
  us = updates_in L r a

  abbrev sent : List Announced
  sent = announced L us

  -- as many objects before the push as it brings
  abbrev Same : Type 0
  Same = (L.shape r.meta).objects ≡ a.objects

  record Kept (m : L.Meta) : Type 0 where
    begins : started L r.meta ≡ true → started L m ≡ true
    shape : (L.shape m).objects ≡ a.objects
    wants : L.wants d m ≡ L.wants d r.meta
    place : L.wants d r.meta ≡ true → (object_in L m d).place ≡ (object_in L r.meta d).place

  -- with an update of the push applied, or with none yet
  abbrev Ended : Bool → L.Meta → Type 0
  Ended true m = ((L.shape m).objects ≡ a.objects) × (L.wants d m ≡ false)
  Ended false m = (L.shape m).objects ≡ (L.shape r.meta).objects

  record On (seen : Bool) (m : L.Meta) : Type 0 where
    kept : Same → Kept m
    ended : (Same → ⊥) → Ended seen m

  -- ---- an update
  module _ (n : ℕ) (u : L.Update) (m : L.Meta) (c : F.Checked u) (s : F.Sound m) (e : (L.sent u).objects ≡ a.objects) where
    shape_now : (L.shape (L.apply n u m)).objects ≡ a.objects
    shape_now = ap (λ (x : Shape). x.objects) (F.shape_apply n u m c s) ∙ e

    applied_kept : Kept m → Kept (L.apply n u m)
    applied_kept h =
        let same = e ∙ sym h.shape in
        record {
          begins = λ q. ap (λ (x : Shape). x.started) (F.shape_apply n u m c s) ∙ F.sent_started u c;
          shape = shape_now;
          wants = F.wants_apply n d u m same ∙ h.wants;
          place = λ w. ap (λ (os : List Source). (get_or os d nobody).place) (F.objects_apply n u m same) ∙ h.place w;
        }

    applied_ended : (seen : Bool) → (Same → ⊥) → Ended seen m → Ended true (L.apply n u m)
    applied_ended true z h = (shape_now, F.wants_apply n d u m (e ∙ sym h.0) ∙ h.1)
    applied_ended false z h = (shape_now, F.ends_apply n d u m (λ q. z (sym h ∙ sym q ∙ e)))

    applied_on : (seen : Bool) → On seen m → On true (L.apply n u m)
    applied_on seen h = record { kept = λ q. applied_kept (h.kept q); ended = λ z. applied_ended seen z (h.ended z) }

  updated_on : (seen : Bool) (t : ℕ) (vs : List L.Update) (s : State L) → All F.Checked vs → F.Sound s.meta → counts_at sent a.objects a.codes t (announced L vs) ≡ clear
      → On seen s.meta → On (seen || at L t vs) (updated L t vs s).meta
  updated_on seen t [] s c z e h = subst (λ (b : Bool). On b s.meta) (sym (or-false seen)) h
  updated_on seen t (u ∷ vs) s c z e h =
      let q = then_clear (cond (eqb (L.offset u) t) (objects_match sent a.objects a.codes (L.sent u)) clear) (counts_at sent a.objects a.codes t (announced L vs)) e in
      go (eqb (L.offset u) t) q.0 (λ b x y i. updated_on b t vs x c.1 y q.1 i)
    where
      go : (b : Bool) → cond b (objects_match sent a.objects a.codes (L.sent u)) clear ≡ clear
          → ((b : Bool) (x : State L) → F.Sound x.meta → On b x.meta → On (b || at L t vs) (updated L t vs x).meta)
          → On (seen || (b || at L t vs)) (updated L t vs (cond b (applied_at L t u s) s)).meta
      go true m after =
          let x = applied_at L t u s in
          subst (λ (b : Bool). On b (updated L t vs x).meta) (sym (or-true seen))
          (after true x (F.sound_apply s.clock.position u s.meta c.0 z)
          (applied_on s.clock.position u s.meta c.0 z (match_clear sent a.objects a.codes (L.sent u) m) seen h))
      go false m after = after seen s z h

  -- ---- a slot
  module _ (n : ℕ) (m : L.Meta) (s : F.Sound m) where
    shape_stays : (L.shape (L.slot n m)).objects ≡ (L.shape m).objects
    shape_stays = ap (λ (x : Shape). x.objects) (F.shape_slot n m s)

    slot_kept : Kept m → Kept (L.slot n m)
    slot_kept h =
        let there = subst (λ (i : ℕ). d < i) (sym h.shape) l in
        record {
          begins = λ q. ap (λ (x : Shape). x.started) (F.shape_slot n m s) ∙ h.begins q;
          shape = shape_stays ∙ h.shape;
          wants = F.wants_slot n d m s there ∙ h.wants;
          place = λ w. F.held_slot n d m s there (h.wants ∙ w) ∙ h.place w;
        }

    slot_ended : (seen : Bool) → Ended seen m → Ended seen (L.slot n m)
    slot_ended true h = (shape_stays ∙ h.0, F.wants_slot n d m s (subst (λ (i : ℕ). d < i) (sym h.0) l) ∙ h.1)
    slot_ended false h = shape_stays ∙ h

    slot_on : (seen : Bool) → On seen m → On seen (L.slot n m)
    slot_on seen h = record { kept = λ q. slot_kept (h.kept q); ended = λ z. slot_ended seen (h.ended z) }

  slotted_on : (seen : Bool) (s : State L) → F.Sound s.meta → On seen s.meta → On seen (slotted L s).meta
  slotted_on seen s z h = either (On seen) (started L s.meta && eqb s.clock.phase 0) (slot_on s.clock.start s.meta z seen h) h

  -- ---- along the samples
  -- whether an update came before sample t
  abbrev seen : ℕ → Bool
  seen zero = false
  seen (suc t) = up_to L t us

  seen_next : (t : ℕ) → (seen t || at L t us) ≡ up_to L t us
  seen_next zero = sym (first_at L us)
  seen_next (suc t) = sym (next_at L t us)

  record At (t : ℕ) (s : State L) : Type 0 where
    good : Good L B F s
    on : On (seen t) s.meta

  met_on : (t : ℕ) (s : State L) → t < a.samples → At t s → On (up_to L t us) (slotted L (updated L t us s)).meta
  met_on t s h i =
      let u = updated_good L B F t us s k.updates i.good in
      slotted_on (up_to L t us) (updated L t us s) u.steady.meta
      (subst (λ (b : Bool). On b (updated L t us s).meta) (seen_next t)
      (updated_on (seen t) t us s k.updates i.good.steady.meta ((judged sent a.objects a.codes a.samples a.rate r.rate (L.shape r.meta) p.later).then_all t h) i.on))

  keep : (t : ℕ) (s : State L) → t < a.samples → At t s → At (suc t) (sampled L (frame_of L r a) t s).next
  keep t s h i = record { good = (sampled_fine L B F (frame_of L r a) k t h s i.good).next; on = met_on t s h i }

  begin : On false r.meta
  begin = record { kept = λ e. record { begins = λ q. q; shape = e; wants = refl; place = λ w. refl }; ended = λ z. refl }

  -- an update that came once has come
  later : (vs : List L.Update) (s t : ℕ) → s ≤ t → T (up_to L s vs) → up_to L t vs ≡ true
  later [] s t h u = absurd u
  later (v ∷ vs) s t h u = go (leb (L.offset v) s) refl u (later vs s t h)
    where
      go : (b : Bool) → leb (L.offset v) s ≡ b → T (b || up_to L s vs) → (T (up_to L s vs) → up_to L t vs ≡ true) → (leb (L.offset v) t || up_to L t vs) ≡ true
      go true e u rest = let q = leb-true (L.offset v) s e in ap (λ (b : Bool). b || up_to L t vs) (le-leb (L.offset v) t (omega arith))
      go false e u rest = ap (λ (b : Bool). leb (L.offset v) t || b) (rest u) ∙ or-true (leb (L.offset v) t)

  seen_by : (s t : ℕ) → s < t → T (up_to L s us) → seen t ≡ true
  seen_by s zero h u = absurd (omega arith)
  seen_by s (suc t) h u = later us s t (omega arith) u

  module _ (good : Good L B F (opened L a.rate r)) where
    at_time : (t : ℕ) → t ≤ a.samples → At t (before L r a t)
    at_time t h = along L (frame_of L r a) (opened L a.rate r) a.samples At keep (record { good = good; on = begin }) t h

    abbrev next_meta : L.Meta
    next_meta = (before L r a a.samples).meta

    last : On (seen a.samples) next_meta
    last = (at_time a.samples (le_refl a.samples)).on

    heard_is : (t : ℕ) → t < a.samples → begun L r a t ≡ true → object_heard L r a t d ≡ object_in L (met L r a t).meta d
    heard_is t h e =
        ap (λ (x : Moment). get_or x.objects d nobody) (moment_is L r a t h)
        ∙ ap (λ (b : Bool). get_or (cond b (L.objects (met L r a t).meta) []) d nobody) (started_at L B F r a p k good t h ∙ e)

    pub holding : Holding L r a d
    unfolding pushed
    holding =
        record {
          numbered = λ e n. let h = last.kept e in (h.begins n.0, le_trans l (le_of_eq (sym h.shape)));
          lasts = λ e. (last.kept e).wants;
          heard = λ e w t h b. ap (λ (x : Source). x.place) (heard_is t h b) ∙ ((met_on t (before L r a t) h (at_time t (le_of_lt h))).kept e).place w;
          stays = λ e w. (last.kept e).place w;
          ended = λ z t h u. (subst (λ (b : Bool). Ended b next_meta) (seen_by t a.samples h u) (last.ended z)).1;
        }
