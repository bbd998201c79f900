-- Laws of `all`. Assumes nothing.
use Rattle.std.proofs.Common.{◌≡◌, ℕ, zero, suc, ◌+◌, ◌<◌, ◌≤◌, Bool, true, false, ◌&&◌, sym, refl, ap, ◌∙◌, ⊎_elim, eq-or-lt_of_le, add-one, arith, ap₂}
use Rattle.fields.specs.RecordBytes.{all}

pub and_false : (a : Bool) {b : Bool} → b ≡ false → (a && b) ≡ false
and_false true e = e
and_false false e = refl

pub and_left : (a b : Bool) → (a && b) ≡ true → a ≡ true
and_left true b e = refl
and_left false b e = e

pub and_right : (a b : Bool) → (a && b) ≡ true → b ≡ true
and_right true b e = e
and_right false b e = absurd (let z : ◌≡◌ {A = ℕ} 0 1 = cc in omega arith)

pub not_true : (a : Bool) → (a ≡ true → ⊥) → a ≡ false
not_true true f = absurd (f refl)
not_true false f = refl

module _ (p : ℕ → Bool) where
  pub all_none : all p 0 ≡ true
  unfolding all
  all_none = refl

  pub all_more : (n : ℕ) → all p n ≡ true → p n ≡ true → all p (n + 1) ≡ true
  unfolding all
  all_more n a e = rw (add-one, a) e

  pub all_next : (n : ℕ) → (all p n && p n) ≡ all p (n + 1)
  unfolding all
  all_next n = rw (add-one n)

  pub all_fails : (n i : ℕ) → i < n → p i ≡ false → all p n ≡ false
  unfolding all
  all_fails zero i h e = absurd (omega arith)
  all_fails (suc n) i h e =
      ⊎_elim
      (λ (q : i ≡ n). and_false (all p n) (ap p (sym q) ∙ e))
      (λ (l : i < n). ap (λ (b : Bool). b && p n) (all_fails n i l e))
      (eq-or-lt_of_le (let l : i ≤ n = omega arith in l))

  pub all_at : (n i : ℕ) → i < n → all p n ≡ true → p i ≡ true
  unfolding all
  all_at zero i h e = absurd (omega arith)
  all_at (suc n) i h e =
      ⊎_elim
      (λ (q : i ≡ n). ap p q ∙ and_right (all p n) (p n) e)
      (λ (l : i < n). all_at n i l (and_left (all p n) (p n) e))
      (eq-or-lt_of_le (let l : i ≤ n = omega arith in l))

  -- all numbers below n are passed when the count has reached n
  pub all_passed : (n i : ℕ) → i ≤ n → n ≤ i → all p i ≡ true → all p n ≡ true
  all_passed n i a b e = ap (all p) (let q : n ≡ i = omega arith in q) ∙ e

  pub all_true : (n : ℕ) → ((i : ℕ) → i < n → p i ≡ true) → all p n ≡ true
  unfolding all
  all_true zero f = refl
  all_true (suc n) f = rw (all_true n (λ i h. f i (omega arith))) (f n (omega arith))

pub all_same : (p q : ℕ → Bool) (n : ℕ) → ((i : ℕ) → i < n → p i ≡ q i) → all p n ≡ all q n
unfolding all
all_same p q zero f = refl
all_same p q (suc n) f = ap₂ (λ (a b : Bool). a && b) (all_same p q n (λ i h. f i (omega arith))) (f n (omega arith))
