-- Laws of `some` and `last`. Assumes nothing.
use Prim.Native.Nat.{ℕ, zero, suc, ◌+◌, ◌<◌, ◌≤◌}
use mathlib.Core.Path.{◌≡◌, refl, sym, ap, subst, ◌∙◌}
use lib.Dec.{T}
use mathlib.Core.Bool.{Bool, true, false, ◌||◌, cond}
use mathlib.Core.Logic.{⊎_elim}
use native.Mathlib.Nat.{eq-or-lt_of_le}
use native.Mathlib.Numerals.{add-one}
use native.Mathlib.Omega.{arith}
use Rattle.fields.proofs.All.{not_true}
use Rattle.records.specs.Runs.{some, last}

or_true : (a : Bool) {b : Bool} → b ≡ true → (a || b) ≡ true
or_true true e = refl
or_true false e = e

module _ (p : ℕ → Bool) where
  pub some_at : (n i : ℕ) → i < n → p i ≡ true → some p n ≡ true
  unfolding some
  some_at zero i h e = absurd (omega arith)
  some_at (suc n) i h e =
      ⊎_elim
      (λ (q : i ≡ n). ap (λ (b : Bool). b || some p n) (ap p (sym q) ∙ e))
      (λ (l : i < n). or_true (p n) (some_at n i l e))
      (eq-or-lt_of_le (let l : i ≤ n = omega arith in l))

  pub some_none : (n : ℕ) → ((i : ℕ) → i < n → p i ≡ false) → some p n ≡ false
  unfolding some
  some_none zero f = refl
  some_none (suc n) f = rw (f n (omega arith)) (some_none n (λ i h. f i (omega arith)))

  pub some_nothing : some p 0 ≡ false
  unfolding some
  some_nothing = refl

  pub some_past : (n : ℕ) → some p n ≡ false → p n ≡ false → some p (n + 1) ≡ false
  unfolding some
  some_past n e f = rw (add-one n, f) e

  -- the only number below n of which p holds is the last one
  pub last_only : (n i : ℕ) → i < n → p i ≡ true → ((k : ℕ) → k < n → p k ≡ true → k ≡ i) → last p n ≡ i
  unfolding last
  last_only zero i h e f = absurd (omega arith)
  last_only (suc n) i h e f =
      ⊎_elim
      (λ (q : i ≡ n). ap (λ (b : Bool). cond b n (last p n)) (ap p (sym q) ∙ e) ∙ sym q)
      (λ (l : i < n).
      let no : p n ≡ false = not_true (p n) (λ t. let q : n ≡ i = f n (omega arith) t in omega arith) in
      ap (λ (b : Bool). cond b n (last p n)) no ∙ last_only n i l e (λ k b. f k (omega arith)))
      (eq-or-lt_of_le (let l : i ≤ n = omega arith in l))

  pub last_none : (n : ℕ) → ((i : ℕ) → i < n → p i ≡ false) → last p n ≡ 0
  unfolding last
  last_none zero f = refl
  last_none (suc n) f = rw (f n (omega arith)) (last_none n (λ i h. f i (omega arith)))

  pub some_last : (n : ℕ) → some p n ≡ true → p (last p n) ≡ true
  unfolding some last
  some_last zero e = absurd (let z : ◌≡◌ {A = ℕ} 0 1 = cc in omega arith)
  some_last (suc n) e = by (p n) refl (λ q. some_last n (rw q at e))
    where
      by : (b : Bool) → p n ≡ b → (p n ≡ false → p (last p n) ≡ true) → p (cond (p n) n (last p n)) ≡ true
      by true q f = rw (q, q)
      by false q f = rw q (f q)

-- where p holds of none the last is 0
pub last_unheld : (p : ℕ → Bool) (n : ℕ) → some p n ≡ false → last p n ≡ 0
unfolding some last
last_unheld p zero e = refl
last_unheld p (suc n) e = step (p n) (some p n) e (last_unheld p n)
  where
    step : (a b : Bool) → (a || b) ≡ false → (b ≡ false → last p n ≡ 0) → cond a n (last p n) ≡ 0
    step true b e h = absurd (subst T e tt)
    step false b e h = h e
