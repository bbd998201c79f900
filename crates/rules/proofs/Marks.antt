-- A hold or a release: what it answers, that nothing changes but what is asked for of its object, and that the later of two undoes the earlier. And what a search looks at. Assumes
-- nothing beyond `Facts`.
use mathlib.Core.Path.{◌≡◌, refl, ap, ap₂, ◌∙◌}
use mathlib.Core.Bool.{Bool, true, false, cond, not}
use Prim.Native.Nat.{ℕ, ◌≤◌, ◌<◌}
use native.Mathlib.Omega.{arith}
use borrow.Author.Tests.{ltb-true, ltb-false}
use lib.Dec.{ltb}
use Rattle.panning.specs.Setup.{Setup}
use Rattle.finding.specs.Search.{search}
use Rattle.rules.specs.Leaves.{Leaves, Shape, started}
use Rattle.rules.specs.Samples.{State}
use Rattle.rules.specs.Calls.{mark, place, numbered, alike_marks, with_meta, marking, step}
use Rattle.rules.specs.Promises.{Numbered, Asks, MarkHolds}
use Rattle.rules.specs.BlockCalls.{Layout}
use Rattle.rules.specs.Demand3.{FindAlike}
use Rattle.rules.proofs.Owed.{Facts}

alike_is : (w b : Bool) → alike_marks w b ≡ true → b ≡ w
alike_is true b e = e
alike_is false true e = cc
alike_is false false e = refl

alike_not : (w b : Bool) → alike_marks w b ≡ false → b ≡ not w
alike_not true b e = e
alike_not false true e = refl
alike_not false false e = cc

apart : (w b : Bool) → b ≡ not w → b ≡ w → ⊥
apart true b e q = cc
apart false b e q = cc

alike_other : (w : Bool) → alike_marks (not w) w ≡ false
alike_other true = refl
alike_other false = refl

pub is_numbered : (L : Leaves) (r : State L) (d : ℕ) → ltb d (numbered L r) ≡ true → Numbered L r d
is_numbered L r d p = go (started L r.meta) refl (ltb-true d (numbered L r) p)
  where
    go : (b : Bool) → started L r.meta ≡ b → d < cond b (L.shape r.meta).objects 0 → (started L r.meta ≡ true) × (d < (L.shape r.meta).objects)
    go true e l = (e, l)
    go false e l = absurd (omega arith)

module _ (L : Leaves) (B : Layout L) (F : Facts L B) (w : Bool) (d : ℕ) (r : State L) (sound : F.Sound r.meta) where
  abbrev s : State L
  s = with_meta L (L.want w d r.meta) r

  past : ltb d (numbered L r) ≡ false → Numbered L r d → ⊥
  past p n = go (started L r.meta) n.0 (ltb-false d (numbered L r) p) n.1
    where
      go : (b : Bool) → b ≡ true → cond b (L.shape r.meta).objects 0 ≤ d → d < (L.shape r.meta).objects → ⊥
      go true e l h = omega arith
      go false e l h = cc

  asks : Numbered L r d → Asks L w d r s
  asks n =
      record {
        setup = refl;
        rate = refl;
        clock = refl;
        limiter = refl;
        filter = refl;
        pending = refl;
        waits = refl;
        meta = refl;
        asked = F.wants_want w d r.meta sound n.1;
        others = λ k z. F.wants_other w d k r.meta z;
        shape = F.shape_want w d r.meta;
        beds = F.beds_want w d r.meta;
        objects = F.objects_want w d r.meta;
      }

  back : L.wants d r.meta ≡ not w → d < (L.shape r.meta).objects → L.want (not w) d (L.want w d r.meta) ≡ r.meta
  back = go w
    where
      go : (w : Bool) → L.wants d r.meta ≡ not w → d < (L.shape r.meta).objects → L.want (not w) d (L.want w d r.meta) ≡ r.meta
      go true e l = F.want_back false d r.meta sound l e
      go false e l = F.want_back true d r.meta sound l e

  undo : ltb d (numbered L r) ≡ true → L.wants d r.meta ≡ not w → (step L s (mark (not w) d)).next ≡ r
  undo p e =
      ap₂ (λ (v known : Bool). (marking L v known (not w) d s).next)
      (ap (λ (x : Shape). ltb d (cond x.started x.objects 0)) (F.shape_want w d r.meta) ∙ p)
      (ap (alike_marks (not w)) (F.wants_want w d r.meta sound (is_numbered L r d p).1) ∙ alike_other w)
      ∙ ap (λ (m : L.Meta). with_meta L m r) (back e (is_numbered L r d p).1)

  answers : (v known : Bool) → ltb d (numbered L r) ≡ v → alike_marks w (L.wants d r.meta) ≡ known → MarkHolds L w d r (marking L v known w d r)
  answers false known p q =
      record {
        unnumbered = λ z. record { answer = refl; next = refl };
        known = λ n. absurd (past p n);
        noted = λ n. absurd (past p n);
        undone = λ n. absurd (past p n);
        silent = refl;
      }
  answers true true p q =
      let is = alike_is w (L.wants d r.meta) q in
      record {
        unnumbered = λ z. absurd (z (is_numbered L r d p));
        known = λ n e. (refl, refl);
        noted = λ n z. absurd (z is);
        undone = λ n z. absurd (z is);
        silent = refl;
      }
  answers true false p q =
      let other = alike_not w (L.wants d r.meta) q in
      record {
        unnumbered = λ z. absurd (z (is_numbered L r d p));
        known = λ n e. absurd (apart w (L.wants d r.meta) other e);
        noted = λ n z. (refl, asks n);
        undone = λ n z. undo p other;
        silent = refl;
      }

  pub mark_holds : MarkHolds L w d r (step L r (mark w d))
  mark_holds = answers (ltb d (numbered L r)) (alike_marks w (L.wants d r.meta)) refl refl

module _ (L : Leaves) (B : Layout L) where
  pub find_alike : FindAlike L B
  find_alike r s mask e = ap (λ (h : Setup). place (search h mask)) e
