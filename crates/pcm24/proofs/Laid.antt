-- A list of bytes that has these numbers, one after another, and is otherwise as before. Assumes nothing.
use mathlib.Core.Path.{◌≡◌, sym, ap, ◌∙◌}
use mathlib.Core.Logic.{inl, inr}
use mathlib.Core.List.{List, [], ◌∷◌}
use Prim.Native.Nat.{ℕ, suc, ◌+◌, ◌-◌, ◌*◌, ◌^◌, ◌≤◌, ◌<◌, suc-le-suc}
use native.Mathlib.Nat.{mul-suc, zero-lt-suc}
use native.Mathlib.Omega.{arith}
use lib.ListN.{length, get_or}
use lib.Seq.{ext_get_or}
use Rattle.words.specs.Words.{Bytes, number, with_number}
use Rattle.words.proofs.Theorems.{reads_back, number_keeps, number_bytes, length_kept, same_bytes, number_small}
use Rattle.ieee.proofs.Theorems.{le_or_lt}
use Rattle.pcm24.specs.Interleaved.{with_numbers}

-- t has these numbers of w bytes from `at` on, and is s elsewhere
pub record Laid (w : ℕ) (vs s t : List ℕ) (at : ℕ) : Type 0 where
  pub same_length : length t ≡ length s
  pub before : (k : ℕ) → k < at → get_or t k 0 ≡ get_or s k 0
  pub there : (j : ℕ) → j < length vs → number t (at + w * j) w ≡ get_or vs j 0
  pub past : (k : ℕ) → at + w * length vs ≤ k → get_or t k 0 ≡ get_or s k 0

module _ (w : ℕ) (t : List ℕ) (bytes : Bytes t) where
  pub laid_is : (vs s : List ℕ) (at : ℕ) → Bytes s → at + w * length vs ≤ length s → Laid w vs s t at → t ≡ with_numbers w s at vs
  laid_is [] s at b h l = ext_get_or 0 t s l.same_length (λ k q. elim (le_or_lt at k) [ inr i ↦ l.before k i | inl i ↦ l.past k (omega arith) ])
  laid_is (v ∷ vs) s at b h l =
      let e : w * suc (length vs) ≡ w * length vs + w = mul-suc w (length vs) in
      let is : number t at w ≡ v = ap (λ (k : ℕ). number t k w) (let z : at ≡ at + w * 0 = omega arith in z) ∙ l.there 0 (zero-lt-suc (length vs)) in
      let small : v < 256 ^ w = rw is at (number_small t at w bytes) in
      let s' : List ℕ = with_number s at w v in
      let read : number s' at w ≡ v = reads_back s at w v (omega arith) small in
      let kept = number_keeps s at w v in
      let inside : (k : ℕ) → at ≤ k → k < at + w → get_or t k 0 ≡ get_or s' k 0 =
      λ k p q. let d : k ≡ at + (k - at) = omega arith in rw d (same_bytes t s' bytes (number_bytes s at w v b) at w (is ∙ sym read) (k - at) (omega arith)) in
      laid_is vs s' (at + w) (number_bytes s at w v b) (rw (length_kept s at w v) (omega arith))
      (record {
        same_length = l.same_length ∙ sym (length_kept s at w v);
        before = λ k q. elim (le_or_lt at k) [ inr i ↦ l.before k i ∙ sym (kept.before k i) | inl i ↦ inside k i q ];
        there = λ j q. let d : at + w + w * j ≡ at + w * suc j = rw (mul-suc w j) (omega arith) in ap (λ (k : ℕ). number t k w) d ∙ l.there (suc j) (suc-le-suc q);
        past = λ k q. l.past k (omega arith) ∙ sym (kept.past k (omega arith));
      })
