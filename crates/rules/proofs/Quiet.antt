-- "Samples before the first update are silent": +0.0 on every channel, the low-pass's too, since it remembers only +0.0. Assumes nothing beyond `Facts`.
use mathlib.Core.Path.{◌≡◌, refl, sym, ap, ◌∙◌, subst}
use mathlib.Core.Logic.{◌⊎◌, inl, inr}
use mathlib.Core.Bool.{Bool, true, false, cond}
use mathlib.Core.List.{[]}
use Prim.Native.Nat.{ℕ, zero, suc, ◌≤◌, ◌<◌}
use native.Mathlib.Nat.{le_of_lt, le_refl}
use borrow.Author.Tests.{eq-eqb}
use lib.Dec.{T, eqb}
use lib.Ieee.{Float}
use Rattle.lowpass.specs.Lowpass.{output, next, new}
use Rattle.lowpass.proofs.Silence.{Still, still_output, still_next}
use Rattle.rules.specs.Parts.{0·0}
use Rattle.rules.specs.Leaves.{Leaves, started}
use Rattle.rules.specs.Mix.{Moment, heard}
use Rattle.rules.specs.Samples.{State, moment, opened, pushed}
use Rattle.rules.specs.Refusals.{Args}
use Rattle.rules.specs.Calls.{updates_in, frame_of}
use Rattle.rules.specs.Sounds.{before, met, moment_at, sound_at}
use Rattle.rules.specs.Promises.{begun}
use Rattle.rules.specs.BlockCalls.{Layout}
use Rattle.rules.proofs.EachOf.{either, neither}
use Rattle.rules.proofs.Owed.{Facts}
use Rattle.rules.proofs.Judged.{Passed}
use Rattle.rules.proofs.Invariant.{Good, Admitted}
use Rattle.rules.proofs.Begun as begins
use Rattle.rules.proofs.PushShapes.{inv, started_at}
use Rattle.rules.proofs.OneMore.{moment_is}
use Rattle.rules.proofs.Sounding.{good_at, enters_at}

new_still : (rate : ℕ) → Still (new rate)
unfolding new
new_still rate = record { x1 = refl; x2 = refl; y1 = refl; y2 = refl }

module _ (L : Leaves) where
  -- before the first update the low-pass remembers only +0.0
  abbrev pub Hush : State L → Type 0
  Hush r = started L r.meta ≡ false → (r.rate ≡ 0) ⊎ Still r.filter

  module _ (B : Layout L) (F : Facts L B) (r : State L) (a : Args) (p : Passed L r a) (k : Admitted L B F (frame_of L r a)) (good : Good L B F (opened L a.rate r))
      (at_rate : (opened L a.rate r).rate ≡ a.rate) (hush : Hush r) where
    opened_still : started L r.meta ≡ false → Still (opened L a.rate r).filter
    opened_still e = go (hush e) (eqb r.rate 0) refl
      where
        go : (r.rate ≡ 0) ⊎ Still r.filter → (b : Bool) → eqb r.rate 0 ≡ b → Still (cond b (new a.rate) r.filter)
        go h true q = new_still a.rate
        go (inl h) false q = absurd (subst T (sym (eq-eqb r.rate 0 h) ∙ q) tt)
        go (inr h) false q = h

    module _ (t : ℕ) (h : t < a.samples) (e : begun L r a t ≡ false) where
      pub silent_at : (c : ℕ) → heard (moment_at L r a t) c ≡ 0·0
      unfolding heard
      silent_at c =
          let m = (met L r a t).meta in
          ap (λ (x : Moment). heard x c) (moment_is L r a t h)
          ∙ ap (λ (b : Bool). heard (record {
            hall = (met L r a t).setup;
            beds = cond b (L.beds m) [];
            objects = cond b (L.objects m) [];
            codes = a.codes;
            inputs = (moment L (frame_of L r a) t (met L r a t).setup m).inputs;
            own = (moment L (frame_of L r a) t (met L r a t).setup m).own;
          }) c) (started_at L B F r a p k good t h ∙ e)

      quiet_at : Still (before L r a t).filter → (c : ℕ) → sound_at L r a c t ≡ 0·0
      quiet_at s c =
          either (λ (x : Float). x ≡ 0·0) (eqb c 3)
          (ap (output (before L r a t).filter) (silent_at 3) ∙ still_output (good_at L B F r a k good at_rate t (le_of_lt h)).calm s) (silent_at c)

      stays_still : Still (before L r a t).filter → Still (before L r a (suc t)).filter
      stays_still s =
          subst Still (sym (enters_at L B F r a k good at_rate t h ∙ ap (next (before L r a t).filter) (silent_at 3)))
          (still_next (good_at L B F r a k good at_rate t (le_of_lt h)).calm s)

    still_before : (t : ℕ) → t ≤ a.samples → begins.before L r a t ≡ false → Still (before L r a t).filter
    still_before zero h e = opened_still e
    still_before (suc t) h e =
        stays_still t h e (still_before t (le_of_lt h) (neither (begins.before L r a t) (begins.at L t (updates_in L r a)) (begins.begins L r a t ∙ e)).0)

    pub quiet : (t : ℕ) → t < a.samples → begun L r a t ≡ false → (c : ℕ) → sound_at L r a c t ≡ 0·0
    quiet t h e c =
        quiet_at t h e (still_before t (le_of_lt h) (neither (begins.before L r a t) (begins.at L t (updates_in L r a)) (begins.begins L r a t ∙ e)).0) c

    pub hush_pushed : Hush (pushed L (frame_of L r a) r).next
    unfolding pushed
    hush_pushed e = inr (still_before a.samples (le_refl a.samples) (sym (inv L B F r a p k good a.samples (le_refl a.samples)).begins ∙ e))
