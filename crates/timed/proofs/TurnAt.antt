-- Turns that each change one entry of a table. Assumes nothing.
use Prim.Native.Nat.{ℕ, zero, suc, ◌+◌, ◌<◌, ◌≤◌}
use mathlib.Core.Path.{◌≡◌, refl, ap, ◌∙◌, subst}
use mathlib.Core.Bool.{Bool, true, false}
use mathlib.Core.List.{List}
use lib.Dec.{ltb}
use lib.ListN.{length, get_or, set, length-set}
use lib.Seq.{get_or-set_same, get_or-set_other}
use native.Mathlib.Omega.{arith}
use borrow.Author.Tests.{ltb-true, ltb-false}
use Rattle.timed.specs.Turns.{times}

-- ---- turn i changes entry i, by what that entry is

module _ {A : Type 0} (g : ℕ → A → A) (d : A) where
  abbrev pub turned : ℕ → List A → List A
  turned i l = set l i (g i (get_or l i d))

  turned_past : (n i k : ℕ) (l : List A) → k < i → get_or (times n i turned l) k d ≡ get_or l k d
  unfolding times
  turned_past zero i k l h = refl
  turned_past (suc n) i k l h = turned_past n (suc i) k (turned i l) (omega arith) ∙ get_or-set_other l i k (g i (get_or l i d)) d (λ e. omega arith)

  turned_from : (n i k : ℕ) (l : List A) (later : Bool) → ltb i k ≡ later → i ≤ k → k < i + n → k < length l → get_or (times n i turned l) k d ≡ g k (get_or l k d)
  unfolding times
  turned_from zero i k l later e h m o = absurd (omega arith)
  turned_from (suc n) i k l true e h m o =
      let q = ltb-true i k e in
      let r = length-set l i (g i (get_or l i d)) in
      turned_from n (suc i) k (turned i l) (ltb (suc i) k) refl (omega arith) (omega arith) (omega arith) ∙ ap (g k) (get_or-set_other l i k (g i (get_or l i d)) d (λ x. omega arith))
  turned_from (suc n) i k l false e h m o =
      let q = ltb-false i k e in
      let s : i ≡ k = omega arith in
      turned_past n (suc i) k (turned i l) (omega arith) ∙ rw s (get_or-set_same l k (g k (get_or l k d)) d o)

  pub turned_at : (n k : ℕ) (l : List A) → k < n → k < length l → get_or (times n 0 turned l) k d ≡ g k (get_or l k d)
  turned_at n k l h o = turned_from n 0 k l (ltb 0 k) refl (omega arith) (omega arith) o

-- ---- turn k makes what the others leave

module _ {S : Type 0} (Q P : S → Type 0) (f : ℕ → S → S) (m k : ℕ)
    (keeps : (i : ℕ) (s : S) → i < m → Q s → Q (f i s)) (makes : (s : S) → Q s → P (f k s)) (leaves : (i : ℕ) (s : S) → i < m → (i ≡ k → ⊥) → P s → P (f i s)) where
  past : (n i : ℕ) → i + n ≤ m → k < i → (s : S) → P s → P (times n i f s)
  unfolding times
  past zero i l h s p = p
  past (suc n) i l h s p = past n (suc i) (omega arith) (omega arith) (f i s) (leaves i s (omega arith) (λ e. omega arith) p)

  made_from : (n i : ℕ) (later : Bool) → ltb i k ≡ later → i + n ≤ m → i ≤ k → k < i + n → (s : S) → Q s → P (times n i f s)
  unfolding times
  made_from zero i later e l a b s q = absurd (omega arith)
  made_from (suc n) i true e l a b s q =
      let h = ltb-true i k e in
      made_from n (suc i) (ltb (suc i) k) refl (omega arith) (omega arith) (omega arith) (f i s) (keeps i s (omega arith) q)
  made_from (suc n) i false e l a b s q =
      let h = ltb-false i k e in
      let o : k ≡ i = omega arith in
      past n (suc i) (omega arith) (omega arith) (f i s) (subst (λ (j : ℕ). P (f j s)) o (makes s q))

  pub made : k < m → (s : S) → Q s → P (times m 0 f s)
  made l s q = made_from m 0 (ltb 0 k) refl (omega arith) (omega arith) (omega arith) s q
