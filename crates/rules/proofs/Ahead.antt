-- What waits rides along: no rule of a sample reads it, so a push and a flush do the same whatever waits. Assumes nothing.
use mathlib.Core.Path.{◌≡◌, refl, ap, ◌∙◌}
use mathlib.Core.Bool.{Bool, true, false, cond}
use mathlib.Core.List.{List, [], ◌∷◌, ◌++◌}
use Prim.Native.Nat.{ℕ, zero, suc}
use lib.Dec.{eqb}
use Rattle.rules.specs.Parts.{joined}
use Rattle.rules.specs.Leaves.{Leaves}
use Rattle.rules.specs.Samples.{Frame, State, After, applied_at, updated, slotted, moment, passed, sampled, framed, opened, pushed, flushed}
use Rattle.rules.specs.Calls.{with_waits}

module _ (L : Leaves) (ws : L.Waits) where
  -- the same, but for what waits after it
  abbrev pub after_with : After L → After L
  after_with d = record { next = with_waits L ws d.next; given = d.given; meters = d.meters; moments = d.moments }

  pub updated_waits : (t : ℕ) (us : List L.Update) (r : State L) → updated L t us (with_waits L ws r) ≡ with_waits L ws (updated L t us r)
  updated_waits t [] r = refl
  updated_waits t (u ∷ us) r = go (eqb (L.offset u) t) (updated_waits t us (applied_at L t u r)) (updated_waits t us r)
    where
      go : (b : Bool) → updated L t us (with_waits L ws (applied_at L t u r)) ≡ with_waits L ws (updated L t us (applied_at L t u r))
          → updated L t us (with_waits L ws r) ≡ with_waits L ws (updated L t us r)
          → updated L t us (cond b (applied_at L t u (with_waits L ws r)) (with_waits L ws r)) ≡ with_waits L ws (updated L t us (cond b (applied_at L t u r) r))
      go true x y = x
      go false x y = y

  module _ (f : Frame L.Update) where
    pub sampled_waits : (t : ℕ) (r : State L) → sampled L f t (with_waits L ws r) ≡ after_with (sampled L f t r)
    sampled_waits t r = ap (λ (x : State L). let s = slotted L x in passed L (moment L f t s.setup s.meta) s) (updated_waits t f.updates r)

    pub framed_waits : (n t : ℕ) (r : State L) → framed L f n t (with_waits L ws r) ≡ after_with (framed L f n t r)
    framed_waits zero t r = refl
    framed_waits (suc n) t r =
        let a = sampled L f t r in
        let then : After L → After L → After L = λ a d. record { next = d.next; given = joined a.given d.given; meters = a.meters ++ d.meters; moments = a.moments ++ d.moments } in
        ap (λ (x : After L). then x (framed L f n (suc t) x.next)) (sampled_waits t r) ∙ ap (then a) (framed_waits n (suc t) a.next)

    pub pushed_waits : (r : State L) → pushed L f (with_waits L ws r) ≡ after_with (pushed L f r)
    unfolding pushed
    pushed_waits r = framed_waits f.samples 0 (opened L f.rate r)

  pub flushed_waits : (r : State L) → flushed L (with_waits L ws r) ≡ after_with (flushed L r)
  unfolding flushed
  flushed_waits r = refl
