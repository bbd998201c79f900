-- Refusal 21 by bits and by size: a sample passes exactly if its bits are small, and is then of size at most 1; one more of a row, each of them, and each of each row. Assumes nothing.
use mathlib.Core.Path.{◌≡◌, refl, sym, ap, subst, ◌∙◌}
use mathlib.Core.Logic.{◌↔◌, inl, inr}
use mathlib.Core.Bool.{Bool, true, false, not, ◌&&◌}
use mathlib.Core.List.{List}
use Prim.Native.Nat.{ℕ, zero, suc, ◌+◌, ◌*◌, ◌%◌, ◌^◌, ◌<◌, ◌≤◌}
use native.Mathlib.Omega.{arith}
use native.Mathlib.Nat.{zero-add, not-suc-le-zero, le_of_suc-le-suc}
use native.Mathlib.Numerals.{add-one}
use borrow.Author.Tests.{lt-leb}
use Rattle.std.proofs.Math.Bool.{and-true, and_assoc}
use lib.Dec.{T, leb, leb→le, le→leb}
use lib.Ieee.{nan, binary32, neg, lt, le, eq, of_bits, to_bits, is_nan}
use lib.Ieee.Bits.{of_bits-fits, to_bits-of_bits, nan_bits_is}
use Rattle.words.specs.Words.{word, float_at}
use Rattle.words.proofs.Nan.{above, not_above}
use Rattle.ieee.specs.Units.{One, mag}
use Rattle.ieee.specs.Bounds.{Bounded}
use Rattle.ieee.proofs.Theorems.{le_or_lt, one_f32, one_P, bits_bounded, between_bounded}
use Rattle.ieee.specs.Numbers.{1·0}
use Rattle.pcm24.specs.Refused.{writable, row_writable, rows_writable}
use Rattle.pcm24.specs.Codes.{code_24}
use Rattle.pcm24.specs.Interleaved.{code_at}
use Rattle.pcm24.proofs.Nearest.{one_word}

same_test : (a b : Bool) → (T a → T b) → (T b → T a) → a ≡ b
same_test true true f g = refl
same_test true false f g = absurd (f tt)
same_test false true f g = absurd (g tt)
same_test false false f g = refl

both : (a b : Bool) → (a && b) ≡ true → (a ≡ true) × (b ≡ true)
both true b e = (refl, e)
both false b e = absurd (subst T (sym e) tt)

nan_outside : writable nan ≡ false
unfolding neg lt le eq
nan_outside = refl

within_one : (w : ℕ) → T (writable (of_bits binary32 w)) ↔ Bounded (mag 1·0) (of_bits binary32 w)
within_one w = between_bounded 1·0 (of_bits binary32 w) one_f32 refl (of_bits-fits binary32 w)

-- by bits
pub passes_meant : (w : ℕ) → w < 2 ^ 32 → leb (w % 2147483648) 1065353216 ≡ writable (of_bits binary32 w)
passes_meant w less = elim (le_or_lt (w % 2147483648) 2139095040) [
  | inr h ↦ lt-leb (w % 2147483648) 1065353216 (omega arith) ∙ sym nan_outside ∙ ap writable (above w h)
  | inl h ↦
      let x = of_bits binary32 w in
      let number : T (not (is_nan x)) = subst (λ (b : Bool). T (not b)) (nan_bits_is binary32 w) (not_above w h) in
      let bits : to_bits binary32 x ≡ w = to_bits-of_bits binary32 w less number in
      let i = bits_bounded 1·0 x one_f32 (of_bits-fits binary32 w) number in
      same_test (leb (w % 2147483648) 1065353216) (writable x)
      (λ t. (within_one w).1 (i.0 (omega (arith, leb→le (w % 2147483648) 1065353216 t, bits, one_word))))
      (λ t. le→leb (w % 2147483648) 1065353216 (omega (arith, i.1 ((within_one w).0 t), bits, one_word)))
]

module _ (s : List ℕ) where
  more : (at n : ℕ) → row_writable s at (suc n) ≡ (row_writable s at n && writable (float_at s (at + 4 * n)))
  unfolding row_writable
  more at zero = and-true (writable (float_at s at)) ∙ ap (λ (k : ℕ). writable (float_at s k)) (omega arith)
  more at (suc n) =
      ap (λ (b : Bool). writable (float_at s at) && b) (more (at + 4) n ∙ ap (λ (k : ℕ). row_writable s (at + 4) n && writable (float_at s k)) (omega arith))
      ∙ sym (and_assoc (writable (float_at s at)) (row_writable s (at + 4) n) (writable (float_at s (at + 4 * suc n))))

  pub none : (at : ℕ) → true ≡ row_writable s at 0
  unfolding row_writable
  none at = refl

  -- one sample more
  pub pass_step : (at i w : ℕ) {t : Bool} → t ≡ row_writable s at i → w < 2 ^ 32 → w ≡ word s (at + 4 * i) → (t && leb (w % 2147483648) 1065353216) ≡ row_writable s at (i + 1)
  unfolding float_at
  pass_step at i w p l e =
      rw (p, passes_meant w l, e) (sym (more at i)) ∙ ap (row_writable s at) (sym (add-one i))

  -- each of them
  row_at : (at n : ℕ) → row_writable s at n ≡ true → (k : ℕ) → k < n → writable (float_at s (at + 4 * k)) ≡ true
  unfolding row_writable
  row_at at zero e k h = absurd (not-suc-le-zero h)
  row_at at (suc n) e zero h = ap (λ (a : ℕ). writable (float_at s a)) (omega arith) ∙ (both (writable (float_at s at)) (row_writable s (at + 4) n) e).0
  row_at at (suc n) e (suc k) h =
      ap (λ (a : ℕ). writable (float_at s a)) (omega arith) ∙ row_at (at + 4) n (both (writable (float_at s at)) (row_writable s (at + 4) n) e).1 k (le_of_suc-le-suc h)

  module _ (stride count : ℕ) where
    -- a row that fails, one that passes, and none left
    pub row_fails : (n c : ℕ) → row_writable s (4 * (c * stride)) count ≡ false → false ≡ rows_writable s stride count (suc n) c
    unfolding rows_writable
    row_fails n c e = rw e refl

    pub row_passed : (n c : ℕ) → row_writable s (4 * (c * stride)) count ≡ true → rows_writable s stride count (suc n) c ≡ rows_writable s stride count n (c + 1)
    unfolding rows_writable
    row_passed n c e = rw e refl

    pub no_rows : (c : ℕ) → rows_writable s stride count 0 c ≡ true
    unfolding rows_writable
    no_rows c = refl

    rows_at : (n c : ℕ) → rows_writable s stride count n c ≡ true → (d : ℕ) → d < n → row_writable s (4 * ((c + d) * stride)) count ≡ true
    unfolding rows_writable
    rows_at zero c e d h = absurd (not-suc-le-zero h)
    rows_at (suc n) c e zero h =
        ap (λ (a : ℕ). row_writable s (4 * (a * stride)) count) (let k : c + 0 ≡ c = omega arith in k) ∙ (both (row_writable s (4 * (c * stride)) count) (rows_writable s stride count n (c + 1)) e).0
    rows_at (suc n) c e (suc d) h =
        ap (λ (a : ℕ). row_writable s (4 * (a * stride)) count) (let k : c + suc d ≡ c + 1 + d = omega arith in k)
        ∙ rows_at n (c + 1) (both (row_writable s (4 * (c * stride)) count) (rows_writable s stride count n (c + 1)) e).1 d (le_of_suc-le-suc h)

    -- each sample to be written passes, and so its bits are small
    pub sample_passes : rows_writable s stride count 12 0 ≡ true → (c i : ℕ) → c < 12 → i < count → writable (float_at s (4 * (c * stride + i))) ≡ true
    sample_passes e c i h q =
        ap (λ (a : ℕ). writable (float_at s a)) (let k : 4 * (c * stride + i) ≡ 4 * (c * stride) + 4 * i = omega arith in k)
        ∙ row_at (4 * (c * stride)) count (rw zero-add at (rows_at 12 0 e c h)) i q

    pub sample_small : rows_writable s stride count 12 0 ≡ true → (c i w : ℕ) → c < 12 → i < count → w < 2 ^ 32 → w ≡ word s (4 * (c * stride + i)) → w % 2147483648 ≤ 1065353216
    unfolding float_at
    sample_small e c i w h q l is = leb→le (w % 2147483648) 1065353216 (subst T (sym (passes_meant w l ∙ ap (λ (v : ℕ). writable (of_bits binary32 v)) is ∙ sample_passes e c i h q)) tt)

-- a sample that passes is of size at most 1
pub unit_bounded : (w : ℕ) → writable (of_bits binary32 w) ≡ true → Bounded One (of_bits binary32 w)
unit_bounded w e = subst (λ (m : ℕ). Bounded m (of_bits binary32 w)) one_P ((within_one w).0 (subst T (sym e) tt))

-- the code of a word is that of the sample whose word it is
pub code_read : (out : List ℕ) (stride i c at w : ℕ) → at ≡ 4 * (c * stride + i) → w ≡ word out at → code_24 (of_bits binary32 w) ≡ code_at out stride i c
unfolding float_at
code_read out stride i c at w e is = ap (λ (n : ℕ). code_24 (of_bits binary32 n)) (is ∙ ap (word out) e)
