-- Codes of three bytes: as four of them stand in three words, and as one is stored. Assumes nothing.
use mathlib.Core.Path.{◌≡◌, refl, sym, ap, ap₂, ◌∙◌}
use mathlib.Core.List.{List}
use Prim.Native.Nat.{ℕ, ◌+◌, ◌*◌, ◌/◌, ◌%◌, ◌^◌}
use native.Mathlib.Nat.{add-zero, zero-add, div-one, div-eq_of_lt, mod-eq_of_lt, add-mul-div_right, add-mul-mod_self_right}
use native.Mathlib.Omega.{arith}
use lib.ListN.{set}
use Rattle.words.proofs.Theorems.{number_parts, number_small}
use Rattle.words.proofs.Numbers.{power_pos}
use Rattle.words.specs.Words.{Bytes, number, word, with_number}

-- the bytes of four codes are those of three words
module _ (s : List ℕ) (bytes : Bytes s) (at : ℕ) where
  low : (at m n : ℕ) → number s at m ≡ number s at (m + n) % 256 ^ m
  low at m n =
      sym (rw (number_parts s at m n) (add-mul-mod_self_right (number s at m) (number s (at + m) n) (256 ^ m) ∙ mod-eq_of_lt (number_small s at m bytes)))

  high : (at m n : ℕ) → number s (at + m) n ≡ number s at (m + n) / 256 ^ m
  high at m n =
      let e : number s at (m + n) ≡ number s at m + number s (at + m) n * 256 ^ m = number_parts s at m n in
      sym (rw e (add-mul-div_right (number s at m) (number s (at + m) n) (power_pos m) ∙ rw (div-eq_of_lt (number_small s at m bytes)) (zero-add (number s (at + m) n))))

  pub first_code : number s at 3 ≡ word s at % 16777216
  first_code = low at 3 1

  pub second_code : number s (at + 3) 3 ≡ word s at / 16777216 + word s (at + 4) % 65536 * 256
  second_code =
      let k : at + 3 + 1 ≡ at + 4 = omega arith in
      number_parts s (at + 3) 1 2 ∙ ap₂ (λ (x y : ℕ). x + y * 256) (high at 3 1) (ap (λ (p : ℕ). number s p 2) k ∙ low (at + 4) 2 2)

  pub third_code : number s (at + 6) 3 ≡ word s (at + 4) / 65536 + word s (at + 8) % 256 * 65536
  third_code =
      let j : at + 4 + 2 ≡ at + 6 = omega arith in
      let k : at + 6 + 2 ≡ at + 8 = omega arith in
      number_parts s (at + 6) 2 1 ∙ ap₂ (λ (x y : ℕ). x + y * 65536) (ap (λ (p : ℕ). number s p 2) (sym j) ∙ high (at + 4) 2 2) (ap (λ (p : ℕ). number s p 1) k ∙ low (at + 8) 1 3)

  pub fourth_code : number s (at + 9) 3 ≡ word s (at + 8) / 256
  fourth_code =
      let k : at + 8 + 1 ≡ at + 9 = omega arith in
      ap (λ (p : ℕ). number s p 3) (sym k) ∙ high (at + 8) 1 3

pub three_put : (s : List ℕ) (at v : ℕ) → set (set (set s at (v % 256)) (at + 1) (v / 256 % 256)) (at + 2) (v / 65536 % 256) ≡ with_number s at 3 v
unfolding with_number
three_put s at v = rw (add-zero at, div-one v) refl
