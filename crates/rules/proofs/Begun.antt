-- When the objects are there: from the first update on. Assumes nothing beyond `Facts`.
use mathlib.Core.Path.{◌≡◌, refl, sym, ap, ap₂, ◌∙◌}
use mathlib.Core.Bool.{Bool, true, false, cond, ◌||◌, or-false, or-true, or_assoc}
use mathlib.Core.List.{List, [], ◌∷◌}
use Prim.Native.Nat.{ℕ, zero, suc}
use native.Mathlib.Omega.{arith}
use borrow.Author.Tests.{leb-true, leb-false, le-leb, lt-leb, eqb-true, eqb-false}
use lib.Dec.{eqb, leb}
use Rattle.ieee.specs.Bounds.{All}
use Rattle.rules.specs.Leaves.{Leaves, Shape, started}
use Rattle.rules.specs.Samples.{State, applied_at, updated}
use Rattle.rules.specs.Refusals.{Args}
use Rattle.rules.specs.Calls.{updates_in}
use Rattle.rules.specs.BlockCalls.{Layout}
use Rattle.rules.specs.Promises.{up_to, begun}
use Rattle.rules.proofs.EachOf.{either}
use Rattle.rules.proofs.Owed.{Facts}

-- ---- tests
crossed : (a b x y : Bool) → ((a || x) || (b || y)) ≡ ((a || b) || (x || y))
crossed true b x y = refl
crossed false true true y = refl
crossed false true false y = refl
crossed false false x y = refl

none_below : (o : ℕ) → leb o 0 ≡ eqb o 0
none_below o = go (eqb o 0) refl
  where
    go : (b : Bool) → eqb o 0 ≡ b → leb o 0 ≡ b
    go true e = let h = eqb-true o 0 e in le-leb o 0 (omega arith)
    go false e = let h = eqb-false o 0 e in lt-leb o 0 (omega arith)

one_more : (o t : ℕ) → leb o (suc t) ≡ (leb o t || eqb o (suc t))
one_more o t = go (leb o t) (eqb o (suc t)) refl refl
  where
    go : (a b : Bool) → leb o t ≡ a → eqb o (suc t) ≡ b → leb o (suc t) ≡ (a || b)
    go true b e f = let h = leb-true o t e in le-leb o (suc t) (omega arith)
    go false true e f = let h = eqb-true o (suc t) f in le-leb o (suc t) (omega arith)
    go false false e f = let h = leb-false o t e in let k = eqb-false o (suc t) f in lt-leb o (suc t) (omega arith)

module _ (L : Leaves) where
  -- an update at offset t
  abbrev pub at : ℕ → List L.Update → Bool
  at t [] = false
  at t (u ∷ us) = eqb (L.offset u) t || at t us

  pub first_at : (us : List L.Update) → up_to L 0 us ≡ at 0 us
  first_at [] = refl
  first_at (u ∷ us) = ap₂ (λ (a b : Bool). a || b) (none_below (L.offset u)) (first_at us)

  pub next_at : (t : ℕ) (us : List L.Update) → up_to L (suc t) us ≡ (up_to L t us || at (suc t) us)
  next_at t [] = refl
  next_at t (u ∷ us) =
      ap₂ (λ (a b : Bool). a || b) (one_more (L.offset u) t) (next_at t us) ∙ crossed (leb (L.offset u) t) (up_to L t us) (eqb (L.offset u) (suc t)) (at (suc t) us)

  module _ (r : State L) (a : Args) where
    -- before sample t
    abbrev pub before : ℕ → Bool
    before zero = started L r.meta
    before (suc t) = begun L r a t

    pub begins : (t : ℕ) → (before t || at t (updates_in L r a)) ≡ begun L r a t
    begins zero = ap (λ (b : Bool). started L r.meta || b) (sym (first_at (updates_in L r a)))
    begins (suc t) =
        or_assoc (started L r.meta) (up_to L t (updates_in L r a)) (at (suc t) (updates_in L r a))
        ∙ ap (λ (b : Bool). started L r.meta || b) (sym (next_at t (updates_in L r a)))

  module _ (B : Layout L) (F : Facts L B) where
    pub updated_started : (t : ℕ) (us : List L.Update) (r : State L) → All F.Checked us → F.Sound r.meta
        → started L (updated L t us r).meta ≡ (started L r.meta || at t us)
    updated_started t [] r k s = sym (or-false (started L r.meta))
    updated_started t (u ∷ us) r k s =
        updated_started t us (cond (eqb (L.offset u) t) (applied_at L t u r) r) k.1
        (either (λ (r : State L). F.Sound r.meta) (eqb (L.offset u) t) {x = applied_at L t u r} {y = r} (F.sound_apply r.clock.position u r.meta k.0 s) s)
        ∙ go (eqb (L.offset u) t)
      where
        go : (b : Bool) → (started L (cond b (applied_at L t u r) r).meta || at t us) ≡ (started L r.meta || (b || at t us))
        go true =
            ap (λ (b : Bool). b || at t us) (ap (λ (s : Shape). s.started) (F.shape_apply r.clock.position u r.meta k.0 s) ∙ F.sent_started u k.0)
            ∙ sym (or-true (started L r.meta))
        go false = refl
