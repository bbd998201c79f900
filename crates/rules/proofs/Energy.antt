-- What an object of the hall adds, at size 0 and at gain 0: document 01's squares. Assumes nothing.
use mathlib.Core.Path.{◌≡◌, refl, sym, ap, ◌∙◌, subst}
use mathlib.Core.Bool.{Bool, true, false}
use mathlib.Core.List.{List, []}
use Prim.Native.Nat.{ℕ, ◌≤◌}
use borrow.Author.Tests.{eqb-true}
use lib.Dec.{T, eqb, lit≤}
use lib.ListN.{length}
use lib.Ieee.{Float, eq}
use Rattle.panning.specs.Terms.{Term, on_channel}
use Rattle.panning.specs.Setup.{Setup, HallFits}
use Rattle.panning.proofs.Theorems.{pans_in, only_present}
use Rattle.rules.specs.Parts.{0·0}
use Rattle.rules.specs.Leaves.{Source}
use Rattle.rules.specs.Mix.{object_terms, object_adds}
use Rattle.rules.specs.Promises.{Squares}
use Rattle.rules.proofs.Owed.{InHall}
use Rattle.rules.proofs.Sends.{sent_alone, panned_alone}

module _ (hall : Setup) (f : HallFits hall) (s : Source) (h : InHall s) where
  -- on channel 3 the send alone, on any other what it is panned to
  once_added : T (eq s.size 0·0) → (c : ℕ) → length (object_adds hall s c) ≤ 1
  unfolding object_terms
  once_added z c = go (eqb c 3) refl
    where
      go : (b : Bool) → eqb c 3 ≡ b → length (object_adds hall s c) ≤ 1
      go true e = subst (λ (ks : List Float). length ks ≤ 1) (sym (ap (object_adds hall s) (eqb-true c 3 e) ∙ sent_alone s h hall f)) (lit≤ tt)
      go false e =
          let p = pans_in hall f s.place h.place in
          subst (λ (ks : List Float). length ks ≤ 1) (sym (panned_alone hall s c e))
          (subst (λ (ts : List Term). length (on_channel c ts) ≤ 1) (sym (p.plain s.gain s.size z)) (p.once s.gain s.size h.gain h.size c))

  pub squared : T (eq s.size 0·0) → Squares hall s
  unfolding object_terms
  squared z =
      let p = pans_in hall f s.place h.place in
      record {
        channels = only_present hall f s.place h.place s.gain s.size;
        each = p.bounded s.gain s.size h.gain h.size;
        once = once_added z;
        sum = p.energy s.gain s.size h.gain z;
      }

  pub stilled : T (eq s.gain 0·0) → object_terms hall s ≡ []
  unfolding object_terms
  stilled z = (pans_in hall f s.place h.place).none s.gain s.size z
