-- A list of bytes is known by its numbers: where two numbers agree, so do their bytes. Assumes nothing.
use mathlib.Core.Path.{◌≡◌, refl, sym, ap, ap₂, ◌∙◌}
use mathlib.Core.List.{List}
use Prim.Native.Nat.{ℕ, zero, suc, ◌+◌, ◌*◌, ◌/◌, ◌%◌, ◌^◌, ◌<◌}
use native.Mathlib.Nat.{add-mul-div_right, add-mul-mod_self_right, div-eq_of_lt, mod-eq_of_lt, zero-add}
use native.Mathlib.Omega.{arith}
use borrow.Author.Count.{below_more}
use lib.ListN.{length, get_or, drop}
use lib.Seq.{ext_get_or}
use Rattle.words.specs.Words.{Bytes, number, words_at}
use Rattle.words.proofs.Numbers.{number_parts}
use Rattle.words.proofs.Small.{number_small}

high : (x b P : ℕ) → x < P → (x + b * P) / P ≡ b
high x b P h =
    let p : 0 < P = omega arith in
    add-mul-div_right x b p ∙ rw (div-eq_of_lt h, zero-add)

low : (x b P : ℕ) → x < P → (x + b * P) % P ≡ x
low x b P h = add-mul-mod_self_right x b P ∙ mod-eq_of_lt h

module _ (s t : List ℕ) (p : Bytes s) (q : Bytes t) where
  pub same_bytes : (at n : ℕ) → number s at n ≡ number t at n → (i : ℕ) → i < n → get_or s (at + i) 0 ≡ get_or t (at + i) 0
  unfolding number
  same_bytes at zero e i h = absurd (omega arith)
  same_bytes at (suc n) e i h =
      let x = number s at n in
      let y = number t at n in
      let b = get_or s (at + n) 0 in
      let c = get_or t (at + n) 0 in
      let P = 256 ^ n in
      let l : x < P = number_small s at n p in
      let m : y < P = number_small t at n q in
      let f : b ≡ c = sym (high x b P l) ∙ ap (λ (z : ℕ). z / P) e ∙ high y c P m in
      let g : x ≡ y = sym (low x b P l) ∙ ap (λ (z : ℕ). z % P) e ∙ low y c P m in
      below_more _ _ (same_bytes at n g) f i (omega arith)

run_number : (s t : List ℕ) (at n : ℕ) → words_at s at n ≡ words_at t at n → number s at (4 * n) ≡ number t at (4 * n)
unfolding number
run_number s t at zero e = refl
run_number s t at (suc n) e =
    let w : number s at 4 ≡ number t at 4 = ap (λ (l : List ℕ). get_or l 0 0) e in
    let r : words_at s (at + 4) n ≡ words_at t (at + 4) n = ap (drop 1) e in
    let k : 4 * suc n ≡ 4 + 4 * n = omega arith in
    rw (k, number_parts s at 4 (4 * n), number_parts t at 4 (4 * n)) (ap₂ (λ (x y : ℕ). x + y * 256 ^ 4) w (run_number s t (at + 4) n r))

-- a block of n words is known by them
pub same_words : (s t : List ℕ) (n : ℕ) → Bytes s → Bytes t → length s ≡ 4 * n → length t ≡ 4 * n → words_at s 0 n ≡ words_at t 0 n → s ≡ t
same_words s t n p q l m e =
    ext_get_or 0 s t (l ∙ sym m) (λ i h. rw zero-add at (same_bytes s t p q 0 (4 * n) (run_number s t 0 n e) i (omega arith)))
