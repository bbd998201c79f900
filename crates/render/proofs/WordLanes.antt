-- Floats out of the bytes of a vector: lane by lane they are the floats in the list that the bytes were read from. Assumes nothing.
use mathlib.Core.Path.{◌≡◌, refl, sym, ap, ap₂, subst, ◌∙◌}
use mathlib.Core.Bool.{not}
use mathlib.Core.List.{List, ◌∷◌, map}
use Prim.Native.Nat.{ℕ, zero, suc, ◌+◌, ◌*◌, ◌/◌, ◌%◌, ◌<◌, ◌≤◌}
use native.Mathlib.Omega.{arith}
use lib.Dec.{T}
use lib.ListN.{length, get_or, take, drop}
use lib.Seq.{drop-cons}
use lib.Lanes.{Each1, number_l, digits_l}
use lib.Ieee.{Float, binary32, of_bits, nan_bits}
use Rattle.words.specs.Words.{Bytes, word, words_at, float_at, floats_at}
use Rattle.words.proofs.Numbers.{word_read}
use Rattle.words.proofs.Nan.{not_above}
use Rattle.mixing.specs.SampleBits.{Plain}

-- the lowest word of a number, and what is above it
lowest : (w r : ℕ) → w < 4294967296 → (w + 4294967296 * r) % 4294967296 ≡ w
lowest w r h = omega arith

above : (w r : ℕ) → w < 4294967296 → (w + 4294967296 * r) / 4294967296 ≡ r
above w r h = omega arith

module _ (s : List ℕ) where
  -- a byte, and what stands behind it
  next : (j k : ℕ) → suc j ≡ k → j < length s → drop j s ≡ get_or s j 0 ∷ drop k s
  next j k e h = drop-cons s j 0 h ∙ ap (λ (i : ℕ). get_or s j 0 ∷ drop i s) e

  -- a word's bytes, and what stands behind them
  four_then : (at m : ℕ) → at + 4 ≤ length s
      → take (suc (suc (suc (suc m)))) (drop at s) ≡ get_or s at 0 ∷ get_or s (at + 1) 0 ∷ get_or s (at + 2) 0 ∷ get_or s (at + 3) 0 ∷ take m (drop (at + 4) s)
  four_then at m h =
      let a = next at (at + 1) (omega arith) (omega arith) in
      let b = next (at + 1) (at + 2) (omega arith) (omega arith) in
      let c = next (at + 2) (at + 3) (omega arith) (omega arith) in
      let d = next (at + 3) (at + 4) (omega arith) (omega arith) in
      rw (a, b, c, d)

  -- the digits to the base 2 ^ 32 of the number that the bytes spell
  words_digits : Bytes s → (n m at : ℕ) → m ≡ 4 * n → at + m ≤ length s → digits_l 4294967296 n (number_l 256 (take m (drop at s))) ≡ words_at s at n
  words_digits b zero m at e h = refl
  words_digits b (suc n) zero at e h = absurd (omega arith)
  words_digits b (suc n) (suc zero) at e h = absurd (omega arith)
  words_digits b (suc n) (suc (suc zero)) at e h = absurd (omega arith)
  words_digits b (suc n) (suc (suc (suc zero))) at e h = absurd (omega arith)
  words_digits b (suc n) (suc (suc (suc (suc m)))) at e h =
      let k = suc (suc (suc (suc m))) in
      let r = number_l 256 (take m (drop (at + 4) s)) in
      let w = word_read s at in
      let small : word s at < 4294967296 = omega (arith, b at, b (at + 1), b (at + 2), b (at + 3)) in
      let x : number_l 256 (take k (drop at s)) ≡ word s at + 4294967296 * r = ap (number_l 256) (four_then at m (omega arith)) ∙ omega arith in
      let lo = ap (λ (n : ℕ). n % 4294967296) x ∙ lowest (word s at) r small in
      let hi = ap (λ (n : ℕ). n / 4294967296) x ∙ above (word s at) r small in
      ap₂ (λ (a b : ℕ). a ∷ digits_l 4294967296 n b) lo hi
      ∙ ap (λ (ws : List ℕ). word s at ∷ ws) (words_digits b n m (at + 4) (omega arith) (omega arith))

  floats_of : (n at : ℕ) → map (of_bits binary32) (words_at s at n) ≡ floats_at s at n
  unfolding float_at
  floats_of zero at = refl
  floats_of (suc n) at = ap (λ (xs : List Float). float_at s at ∷ xs) (floats_of n (at + 4))

  plain_each : (n at : ℕ) → Plain s at n → Each1 (λ w. T (not (nan_bits binary32 w))) (words_at s at n)
  plain_each zero at p = tt
  plain_each (suc n) at p = (
    not_above (word s at) (subst (λ (a : ℕ). word s a % 0x8000_0000 ≤ 0x7f80_0000) (omega arith) (p 0 (omega arith))),
    plain_each n (at + 4) (λ k h. subst (λ (a : ℕ). word s a % 0x8000_0000 ≤ 0x7f80_0000) (omega arith) (p (suc k) (omega arith))),
  )

  -- the words of a vector that is loaded from `at` on
  module _ (bytes : Bytes s) (n at : ℕ) (h : at + 4 * n ≤ length s) where
    abbrev lanes : List ℕ
    lanes = digits_l 4294967296 n (number_l 256 (take (4 * n) (drop at s)))

    lanes_are : lanes ≡ words_at s at n
    lanes_are = words_digits bytes n (4 * n) at refl h

    pub lanes_plain : Plain s at n → Each1 (λ w. T (not (nan_bits binary32 w))) lanes
    lanes_plain p = subst (Each1 (λ w. T (not (nan_bits binary32 w)))) (sym lanes_are) (plain_each n at p)

    pub lanes_floats : map (of_bits binary32) lanes ≡ floats_at s at n
    lanes_floats = ap (map (of_bits binary32)) lanes_are ∙ floats_of n at
