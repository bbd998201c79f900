-- To take updates as time meets them, and at each sample in the order sent, is to take them in stable order of offset (`taken_stable`), and no other order is stable
-- (`stable_only`). A frame applies its updates so (`updated_in_order`), and refusals 9 to 14 see them so (`counts_in_order`, `shape_in_order`). Assumes nothing.
use Prim.Native.Nat.{ℕ, zero, suc, ◌+◌, ◌≤◌, ◌<◌, zero-le}
use mathlib.Core.Path.{◌≡◌, refl, sym, ap, ap₂, ◌∙◌, subst}
use mathlib.Core.Logic.{⊎_elim}
use mathlib.Core.Bool.{Bool, true, false, cond}
use mathlib.Core.List.{List, [], ◌∷◌, ◌++◌, append-nil}
use native.Mathlib.Nat.{eq-or-lt_of_le}
use native.Mathlib.Omega.{arith}
use borrow.Author.Tests.{eqb-true, eqb-false, eq-eqb, ne_eqb}
use lib.Dec.{eqb}
use Rattle.ieee.specs.Bounds.{All}
use Rattle.ieee.proofs.Grid.{le_or_lt}
use Rattle.rules.specs.Order.{at_offset}
use Rattle.rules.specs.StableOrder.{taken, Rises, Stable}
use Rattle.rules.specs.Leaves.{Leaves, Shape}
use Rattle.rules.specs.Samples.{State, applied_at, updated}
use Rattle.rules.specs.Refusals.{Found, clear, ◌then◌, Announced, objects_match, counts_at, shape_at}
use Rattle.rules.specs.Sounds.{applied_all}
use Rattle.rules.proofs.EachOf.{all_append}

module _ {A : Type 0} (offset : A → ℕ) where
  -- ---- those at one sample
  at_all : (P : A → Type 0) (t : ℕ) (us : List A) → ((u : A) → offset u ≡ t → P u) → All P (at_offset offset t us)
  at_all P t [] h = tt
  at_all P t (u ∷ us) h = go (eqb (offset u) t) refl (at_all P t us h)
    where
      go : (b : Bool) → eqb (offset u) t ≡ b → All P (at_offset offset t us) → All P (cond b (u ∷ at_offset offset t us) (at_offset offset t us))
      go true e r = (h u (eqb-true (offset u) t e), r)
      go false e r = r

  pub at_both : (t : ℕ) (us vs : List A) → at_offset offset t (us ++ vs) ≡ at_offset offset t us ++ at_offset offset t vs
  at_both t [] vs = refl
  at_both t (u ∷ us) vs = go (eqb (offset u) t) (at_both t us vs)
    where
      go : (b : Bool) → at_offset offset t (us ++ vs) ≡ at_offset offset t us ++ at_offset offset t vs
          → cond b (u ∷ at_offset offset t (us ++ vs)) (at_offset offset t (us ++ vs)) ≡ cond b (u ∷ at_offset offset t us) (at_offset offset t us) ++ at_offset offset t vs
      go true e = ap (λ (l : List A). u ∷ l) e
      go false e = e

  -- one that is at t, and one that is not
  at_here : (t : ℕ) (u : A) (us : List A) → offset u ≡ t → at_offset offset t (u ∷ us) ≡ u ∷ at_offset offset t us
  at_here t u us e = ap (λ (b : Bool). cond b (u ∷ at_offset offset t us) (at_offset offset t us)) (eq-eqb (offset u) t e)

  at_not : (t : ℕ) (u : A) (us : List A) → (offset u ≡ t → ⊥) → at_offset offset t (u ∷ us) ≡ at_offset offset t us
  at_not t u us n = ap (λ (b : Bool). cond b (u ∷ at_offset offset t us) (at_offset offset t us)) (ne_eqb (offset u) t n)

  at_none : (t : ℕ) (us : List A) → All (λ (u : A). offset u ≡ t → ⊥) us → at_offset offset t us ≡ []
  at_none t [] h = refl
  at_none t (u ∷ us) h = at_not t u us h.0 ∙ at_none t us h.1

  at_every : (t : ℕ) (us : List A) → All (λ (u : A). offset u ≡ t) us → at_offset offset t us ≡ us
  at_every t [] h = refl
  at_every t (u ∷ us) h = at_here t u us h.0 ∙ ap (λ (l : List A). u ∷ l) (at_every t us h.1)

  all_map : {P Q : A → Type 0} (us : List A) → ((u : A) → P u → Q u) → All P us → All Q us
  all_map [] f h = tt
  all_map (u ∷ us) f h = (f u h.0, all_map us f h.1)

  -- ---- as time meets them
  taken_all : (P : A → Type 0) (n t : ℕ) (us : List A) → ((u : A) → t ≤ offset u → offset u < t + n → P u) → All P (taken offset n t us)
  taken_all P zero t us h = tt
  taken_all P (suc n) t us h =
      all_append P (at_offset offset t us) (taken offset n (suc t) us) (at_all P t us (λ u e. h u (omega arith) (omega arith)))
      (taken_all P n (suc t) us (λ u a b. h u (omega arith) (omega arith)))

  rises_both : (us vs : List A) → Rises offset us → Rises offset vs → All (λ (u : A). All (λ (v : A). offset u ≤ offset v) vs) us → Rises offset (us ++ vs)
  rises_both [] vs a b h = b
  rises_both (u ∷ us) vs a b h = (all_append (λ (v : A). offset u ≤ offset v) us vs a.0 h.0, rises_both us vs a.1 b h.1)

  level_rises : (t : ℕ) (us : List A) → All (λ (u : A). offset u ≡ t) us → Rises offset us
  level_rises t [] h = tt
  level_rises t (u ∷ us) h = let e = h.0 in (all_map us (λ v q. omega arith) h.1, level_rises t us h.1)

  taken_rises : (n t : ℕ) (us : List A) → Rises offset (taken offset n t us)
  taken_rises zero t us = tt
  taken_rises (suc n) t us =
      rises_both (at_offset offset t us) (taken offset n (suc t) us) (level_rises t (at_offset offset t us) (at_all _ t us (λ u e. e))) (taken_rises n (suc t) us)
      (at_all _ t us (λ u e. taken_all (λ (v : A). offset u ≤ offset v) n (suc t) us (λ v a b. omega arith)))

  taken_same : (n t : ℕ) (us : List A) (s : ℕ) → t ≤ s → s < t + n → at_offset offset s (taken offset n t us) ≡ at_offset offset s us
  taken_same zero t us s l h = absurd (omega arith)
  taken_same (suc n) t us s l h =
      at_both s (at_offset offset t us) (taken offset n (suc t) us)
      ∙ ⊎_elim here (λ (g : t < s). ap₂ (λ (x y : List A). x ++ y) (at_none s (at_offset offset t us) (at_all _ t us (λ u q z. omega arith)))
      (taken_same n (suc t) us s g (omega arith))) (eq-or-lt_of_le l)
    where
      here : t ≡ s → at_offset offset s (at_offset offset t us) ++ at_offset offset s (taken offset n (suc t) us) ≡ at_offset offset s us
      here e =
          ap₂ (λ (x y : List A). x ++ y)
          (at_every s (at_offset offset t us) (at_all _ t us (λ u q. q ∙ e)) ∙ ap (λ (u : ℕ). at_offset offset u us) e)
          (at_none s (taken offset n (suc t) us) (taken_all _ n (suc t) us (λ u a b q. omega arith)))
          ∙ append-nil (at_offset offset s us)

  pub taken_stable : (us : List A) (n : ℕ) → Stable offset us n (taken offset n 0 us)
  taken_stable us n = record { rises = taken_rises n 0 us; same = λ t h. taken_same n 0 us t zero-le (omega arith); below = taken_all _ n 0 us (λ u a b. omega arith) }

  -- ---- no other order
  apart : (u : A) (us : List A) → u ∷ us ≡ [] → ⊥
  apart u us e = let z : ◌≡◌ {A = ℕ} 0 1 = cc in omega arith

  -- an element that is lower than all of a list
  lower : (u v : A) (us vs : List A) → Rises offset (v ∷ vs) → offset u < offset v → at_offset offset (offset u) (u ∷ us) ≡ at_offset offset (offset u) (v ∷ vs) → ⊥
  lower u v us vs r h e =
      apart u (at_offset offset (offset u) us)
      (sym (at_here (offset u) u us refl) ∙ e ∙ at_none (offset u) (v ∷ vs) ((λ q. omega arith), all_map vs (λ w q z. omega arith) r.0))

  pub rising_same : (us vs : List A) → Rises offset us → Rises offset vs → ((t : ℕ) → at_offset offset t us ≡ at_offset offset t vs) → us ≡ vs
  rising_same [] [] a b h = refl
  rising_same [] (v ∷ vs) a b h = absurd (apart v (at_offset offset (offset v) vs) (sym (h (offset v) ∙ at_here (offset v) v vs refl)))
  rising_same (u ∷ us) [] a b h = absurd (apart u (at_offset offset (offset u) us) (sym (at_here (offset u) u us refl) ∙ h (offset u)))
  rising_same (u ∷ us) (v ∷ vs) a b h =
      let p : u ∷ at_offset offset (offset u) us ≡ v ∷ at_offset offset (offset u) vs = sym (at_here (offset u) u us refl) ∙ h (offset u) ∙ at_here (offset u) v vs (sym level) in
      ap₂ (λ (x : A) (l : List A). x ∷ l) (cc) (rising_same us vs a.1 b.1 (λ t. tails t (eqb (offset u) t) refl (cc)))
    where
      level : offset u ≡ offset v
      level = ⊎_elim
          (λ (l : offset u ≤ offset v). ⊎_elim (λ (e : offset u ≡ offset v). e) (λ (g : offset u < offset v). absurd (lower u v us vs b g (h (offset u)))) (eq-or-lt_of_le l))
          (λ (g : offset v < offset u). absurd (lower v u vs us a g (sym (h (offset v)))))
          (le_or_lt (offset u) (offset v))

      tails : (t : ℕ) (c : Bool) → eqb (offset u) t ≡ c → at_offset offset (offset u) us ≡ at_offset offset (offset u) vs → at_offset offset t us ≡ at_offset offset t vs
      tails t true e q = subst (λ (s : ℕ). at_offset offset s us ≡ at_offset offset s vs) (eqb-true (offset u) t e) q
      tails t false e q =
          let n = eqb-false (offset u) t e in
          sym (at_not t u us n) ∙ h t ∙ at_not t v vs (λ z. n (level ∙ z))

  pub stable_only : (us : List A) (n : ℕ) (vs ws : List A) → Stable offset us n vs → Stable offset us n ws → vs ≡ ws
  stable_only us n vs ws p q = rising_same vs ws p.rises q.rises (λ t. ⊎_elim (none t) (λ (l : t < n). p.same t l ∙ sym (q.same t l)) (le_or_lt n t))
    where
      none : (t : ℕ) → n ≤ t → at_offset offset t vs ≡ at_offset offset t ws
      none t l = at_none t vs (all_map vs (λ u h e. omega arith) p.below) ∙ sym (at_none t ws (all_map ws (λ u h e. omega arith) q.below))

-- ---- a frame's updates at sample t
pub updated_in_order : (L : Leaves) (t : ℕ) (us : List L.Update) (r : State L) → updated L t us r ≡ applied_all L t (at_offset L.offset t us) r
updated_in_order L t [] r = refl
updated_in_order L t (u ∷ us) r = updated_in_order L t us (cond (eqb (L.offset u) t) (applied_at L t u r) r) ∙ go (eqb (L.offset u) t)
  where
    go : (b : Bool) → applied_all L t (at_offset L.offset t us) (cond b (applied_at L t u r) r)
        ≡ applied_all L t (cond b (u ∷ at_offset L.offset t us) (at_offset L.offset t us)) r
    go true = refl
    go false = refl

pub updated_both : (L : Leaves) (t : ℕ) (us vs : List L.Update) (r : State L) → updated L t (us ++ vs) r ≡ updated L t vs (updated L t us r)
updated_both L t [] vs r = refl
updated_both L t (u ∷ us) vs r = updated_both L t us vs (cond (eqb (L.offset u) t) (applied_at L t u r) r)

-- ---- what 9 to 14 see of them
module _ (all : List Announced) (objects : ℕ) (codes : List ℕ) where
  abbrev sent_at : ℕ → List Announced → List Announced
  sent_at t us = at_offset (λ (u : Announced). u.offset) t us

  -- 11 for each of them, and the shape of the last
  abbrev pub all_match : List Announced → Found
  all_match [] = clear
  all_match (u ∷ us) = objects_match all objects codes u.shape then all_match us

  abbrev pub last_shape : List Announced → Shape → Shape
  last_shape [] s = s
  last_shape (u ∷ us) s = last_shape us u.shape

  pub counts_in_order : (t : ℕ) (us : List Announced) → counts_at all objects codes t us ≡ all_match (sent_at t us)
  counts_in_order t [] = refl
  counts_in_order t (u ∷ us) = go (eqb u.offset t) (counts_in_order t us)
    where
      go : (b : Bool) → counts_at all objects codes t us ≡ all_match (sent_at t us)
          → (cond b (objects_match all objects codes u.shape) clear then counts_at all objects codes t us) ≡ all_match (cond b (u ∷ sent_at t us) (sent_at t us))
      go true e = ap (λ (x : Found). objects_match all objects codes u.shape then x) e
      go false e = e

  pub shape_in_order : (t : ℕ) (us : List Announced) (s : Shape) → shape_at all objects codes t us s ≡ last_shape (sent_at t us) s
  shape_in_order t [] s = refl
  shape_in_order t (u ∷ us) s = shape_in_order t us (cond (eqb u.offset t) u.shape s) ∙ go (eqb u.offset t)
    where
      go : (b : Bool) → last_shape (sent_at t us) (cond b u.shape s) ≡ last_shape (cond b (u ∷ sent_at t us) (sent_at t us)) s
      go true = refl
      go false = refl
