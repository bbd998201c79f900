-- What updates leave as it was; no sample changes the hall; and hall, clock and timed state do not depend on the samples: two renderers that agree on them do so after a sample
-- of two frames with the same updates. Assumes nothing.
use mathlib.Core.Path.{◌≡◌, refl, ap, ◌∙◌}
use mathlib.Core.Bool.{cond, not, ◌&&◌, ◌||◌}
use mathlib.Core.List.{List, [], ◌∷◌}
use Prim.Native.Nat.{ℕ, zero, suc, ◌+◌}
use native.Mathlib.Omega.{arith}
use lib.Dec.{eqb}
use Rattle.rules.specs.Leaves.{Leaves, started}
use Rattle.rules.specs.Mix.{Moment}
use Rattle.rules.specs.Samples.{Frame, State, restarted, ticked, applied_at, updated, slotted, passed, sampled, framed}
use Rattle.rules.proofs.EachOf.{either, both}

module _ (L : Leaves) where
  -- updates leave all but the slot and the timed state
  pub record Untouched (r s : State L) : Type 0 where
    pub setup : s.setup ≡ r.setup
    pub rate : s.rate ≡ r.rate
    pub position : s.clock.position ≡ r.clock.position
    pub limiter : s.limiter ≡ r.limiter
    pub filter : s.filter ≡ r.filter
    pub pending : s.pending ≡ r.pending
    pub waits : s.waits ≡ r.waits

  untouched_self : (r : State L) → Untouched r r
  untouched_self r = record { setup = refl; rate = refl; position = refl; limiter = refl; filter = refl; pending = refl; waits = refl }

  untouched_one : (t : ℕ) (u : L.Update) (r : State L) → Untouched r (applied_at L t u r)
  untouched_one t u r = record { setup = refl; rate = refl; position = refl; limiter = refl; filter = refl; pending = refl; waits = refl }

  pub untouched : (t : ℕ) (us : List L.Update) (r : State L) → Untouched r (updated L t us r)
  untouched t [] r = untouched_self r
  untouched t (u ∷ us) r =
      let s = cond (eqb (L.offset u) t) (applied_at L t u r) r in
      let h = untouched t us s in
      let k : Untouched r s = either (Untouched r) (eqb (L.offset u) t) (untouched_one t u r) (untouched_self r) in
      record {
        setup = h.setup ∙ k.setup;
        rate = h.rate ∙ k.rate;
        position = h.position ∙ k.position;
        limiter = h.limiter ∙ k.limiter;
        filter = h.filter ∙ k.filter;
        pending = h.pending ∙ k.pending;
        waits = h.waits ∙ k.waits;
      }

  -- no sample changes the hall
  pub setup_kept : (f : Frame L.Update) (n t : ℕ) (r : State L) → (framed L f n t r).next.setup ≡ r.setup
  setup_kept f zero t r = refl
  setup_kept f (suc n) t r = setup_kept f n (suc t) (sampled L f t r).next ∙ (untouched t f.updates r).setup

  -- the stream moves by the samples
  pub position_moves : (f : Frame L.Update) (n t : ℕ) (r : State L) → (framed L f n t r).next.clock.position ≡ r.clock.position + n
  position_moves f zero t r = omega arith
  position_moves f (suc n) t r =
      let e = (untouched t f.updates r).position in position_moves f n (suc t) (sampled L f t r).next ∙ ap (λ (k : ℕ). k + 1 + n) e ∙ (omega arith)

  -- and none touches what waits
  pub waits_kept : (f : Frame L.Update) (n t : ℕ) (r : State L) → (framed L f n t r).next.waits ≡ r.waits
  waits_kept f zero t r = refl
  waits_kept f (suc n) t r = waits_kept f n (suc t) (sampled L f t r).next ∙ (untouched t f.updates r).waits

  pub record Alike (r s : State L) : Type 0 where
    pub setup : r.setup ≡ s.setup
    pub clock : r.clock ≡ s.clock
    pub meta : r.meta ≡ s.meta

  pub alike_self : (r : State L) → Alike r r
  alike_self r = record { setup = refl; clock = refl; meta = refl }

  applied_alike : (t : ℕ) (u : L.Update) (r s : State L) → Alike r s → Alike (applied_at L t u r) (applied_at L t u s)
  applied_alike t u r s a =
      record { setup = a.setup; clock = λ i. restarted (not (started L (a.meta i)) || eqb t 0) (a.clock i); meta = λ i. L.apply (a.clock i).position u (a.meta i) }

  updated_alike : (t : ℕ) (us : List L.Update) (r s : State L) → Alike r s → Alike (updated L t us r) (updated L t us s)
  updated_alike t [] r s a = a
  updated_alike t (u ∷ us) r s a =
      updated_alike t us (cond (eqb (L.offset u) t) (applied_at L t u r) r) (cond (eqb (L.offset u) t) (applied_at L t u s) s)
      (both Alike (eqb (L.offset u) t) (applied_alike t u r s a) a)

  slotted_alike : (r s : State L) → Alike r s → Alike (slotted L r) (slotted L s)
  slotted_alike r s a =
      record { setup = a.setup; clock = a.clock; meta = λ i. cond (started L (a.meta i) && eqb (a.clock i).phase 0) (L.slot (a.clock i).start (a.meta i)) (a.meta i) }

  pub met_alike : (t : ℕ) (us : List L.Update) (r s : State L) → Alike r s → Alike (slotted L (updated L t us r)) (slotted L (updated L t us s))
  met_alike t us r s a = slotted_alike (updated L t us r) (updated L t us s) (updated_alike t us r s a)

  pub passed_alike : (m n : Moment) (r s : State L) → Alike r s → Alike (passed L m r).next (passed L n s).next
  passed_alike m n r s a = record { setup = a.setup; clock = λ i. ticked (started L (a.meta i)) 1 (a.clock i); meta = a.meta }
