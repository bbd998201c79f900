-- Zero bytes by numbers: a number is 0 exactly where its bytes are, and a run of bytes is zero exactly where its two parts are. Assumes nothing.
use Rattle.std.proofs.Common.{◌≡◌, ℕ, zero, suc, ◌+◌, ◌*◌, ◌^◌, ◌<◌, Bool, true, false, ◌&&◌, eqb, List, get_or, sym, refl, ap, ◌∙◌, ap₂, add-zero, add_assoc, add-suc, zero-mul, le-mul_of_pos_right, arith, eq-eqb, ne_eqb, eqb-true}
use borrow.Author.Tests.{eqb-false}
use Rattle.words.specs.Words.{number, word}
use Rattle.words.proofs.Numbers.{power_pos}
use Rattle.fields.specs.RecordBytes.{all, zero_bytes}
use Rattle.fields.proofs.All.{all_next}

-- a sum is 0 where both terms are
sum_zero : (a b p : ℕ) → 0 < p → eqb (a + b * p) 0 ≡ (eqb a 0 && eqb b 0)
sum_zero a b p h = by (eqb a 0) (eqb b 0) refl refl
  where
    by : (s t : Bool) → eqb a 0 ≡ s → eqb b 0 ≡ t → eqb (a + b * p) 0 ≡ (s && t)
    by true true e f =
        let x = eqb-true a 0 e in
        let y : b * p ≡ 0 = ap (λ (n : ℕ). n * p) (eqb-true b 0 f) ∙ zero-mul p in
        eq-eqb (a + b * p) 0 (omega arith)
    by true false e f = let l = le-mul_of_pos_right b h in ne_eqb (a + b * p) 0 (λ z. eqb-false b 0 f (omega arith))
    by false t e f = ne_eqb (a + b * p) 0 (λ z. eqb-false a 0 e (omega arith))

pub and_assoc : (a b c : Bool) → (a && (b && c)) ≡ ((a && b) && c)
and_assoc true b c = refl
and_assoc false b c = refl

and_true : (a : Bool) → (a && true) ≡ a
and_true true = refl
and_true false = refl

module _ (m : List ℕ) where
  pub number_zero : (at n : ℕ) → eqb (number m at n) 0 ≡ zero_bytes m at n
  unfolding number all
  number_zero at zero = refl
  number_zero at (suc n) =
      let b = get_or m (at + n) 0 in
      sum_zero (number m at n) b (256 ^ n) (power_pos n) ∙ ap (λ (t : Bool). t && eqb b 0) (number_zero at n)

  pub zeros_joined : (at j n : ℕ) → (zero_bytes m at j && zero_bytes m (at + j) n) ≡ zero_bytes m at (j + n)
  unfolding all
  zeros_joined at j zero = and_true (zero_bytes m at j) ∙ ap (zero_bytes m at) (sym (add-zero j))
  zeros_joined at j (suc n) =
      and_assoc (zero_bytes m at j) (zero_bytes m (at + j) n) (eqb (get_or m (at + j + n) 0) 0)
      ∙ ap₂ (λ (t : Bool) (k : ℕ). t && eqb (get_or m k 0) 0) (zeros_joined at j n) (add_assoc at j n)
      ∙ ap (zero_bytes m at) (sym (add-suc j n))

  -- one byte more, for a loop
  pub zeros_next : (at n : ℕ) → (zero_bytes m at n && eqb (get_or m (at + n) 0) 0) ≡ zero_bytes m at (n + 1)
  zeros_next at = all_next (λ j. eqb (get_or m (at + j) 0) 0)

  zeros_three : (at y z : ℕ) → y ≡ at + 4 → z ≡ at + 8 → (eqb (word m at) 0 && eqb (word m y) 0 && eqb (word m z) 0) ≡ zero_bytes m at 12
  zeros_three at y z p q =
      simp (p, q, number_zero at 4, number_zero (at + 4) 4, number_zero (at + 8) 4) (ap (λ (t : Bool). t && zero_bytes m (at + 8) 4) (zeros_joined at 4 4) ∙ zeros_joined at 8 4)

  -- the three words of a position
  pub zero_position : (r : ℕ) → (eqb (word m (40 * r + 8)) 0 && eqb (word m (40 * r + 12)) 0 && eqb (word m (40 * r + 16)) 0) ≡ zero_bytes m (40 * r + 8) 12
  zero_position r = zeros_three (40 * r + 8) (40 * r + 12) (40 * r + 16) (omega arith) (omega arith)
