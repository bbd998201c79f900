-- "Reading up to 1,536 samples, spacing the channels by the stride and writing restores the bytes", for any bytes. Assumes nothing.
use mathlib.Core.Path.{◌≡◌, refl, sym, ap, ap₂, subst, ◌∙◌}
use mathlib.Core.Logic.{inl, inr}
use mathlib.Core.Bool.{Bool, true, false, ◌&&◌}
use mathlib.Core.List.{List, [], ◌∷◌, ◌++◌}
use Prim.Native.Nat.{ℕ, zero, suc, ◌+◌, ◌-◌, ◌*◌, ◌/◌, ◌%◌, ◌^◌, ◌≤◌, ◌<◌, suc-le-suc}
use native.Mathlib.Nat.{mul-suc, mul-le-mul_right, zero-lt-suc, zero-add, le_of_suc-le-suc}
use native.Mathlib.Omega.{arith}
use lib.Dec.{T, lit<}
use lib.ListN.{length, get_or, drop}
use lib.Ieee.{binary32, of_bits}
use lib.Ieee.Bits.{of_bits-to_bits}
use lib.Ieee.Fits.{div-fits}
use borrow.Author.Tests.{le-ltb}
use Rattle.std.proofs.Common.{length-append, length-drop}
use Rattle.std.proofs.lemmas.List.{get_or_append_left, get_or-append-add, get_or-drop}
use Rattle.std.specs.Prelude.{Ok}
use Rattle.words.specs.Words.{Bytes, number, with_number, word, float_at}
use Rattle.words.proofs.Theorems.{reads_back, number_keeps, length_kept, number_small}
use Rattle.ieee.specs.Units.{mag}
use Rattle.ieee.specs.Bounds.{Bounded}
use Rattle.ieee.specs.Numbers.{1·0}
use Rattle.ieee.proofs.Theorems.{le_or_lt, between_bounded, one_f32, one_P}
use Rattle.pcm24.specs.Codes.{sample_24, code_24}
use Rattle.pcm24.specs.Interleaved.{in_rows, with_numbers, code_at, interleaved, word_read, in_channels}
use Rattle.pcm24.specs.Refused.{has_rows, writable, row_writable, rows_writable, judged_to_write}
use Rattle.pcm24.proofs.Table.{table_length, table_read, table_small}
use Rattle.pcm24.proofs.Laid.{laid_is}
use Rattle.pcm24.proofs.Separating.{word_small}
use Rattle.pcm24.proofs.Nearest.{code_small}
use Rattle.pcm24.proofs.Near.{code_again, sample_bounded}

-- ---- numbers that were written are read back
pub numbers_length : (w : ℕ) (vs s : List ℕ) (at : ℕ) → length (with_numbers w s at vs) ≡ length s
numbers_length w [] s at = refl
numbers_length w (v ∷ vs) s at = numbers_length w vs (with_number s at w v) (at + w) ∙ length_kept s at w v

numbers_keep : (w : ℕ) (vs s : List ℕ) (at : ℕ) → (k : ℕ) → k < at → get_or (with_numbers w s at vs) k 0 ≡ get_or s k 0
numbers_keep w [] s at k h = refl
numbers_keep w (v ∷ vs) s at k h = numbers_keep w vs (with_number s at w v) (at + w) k (omega arith) ∙ (number_keeps s at w v).before k h

numbers_past : (w : ℕ) (vs s : List ℕ) (at k : ℕ) → at + w * length vs ≤ k → get_or (with_numbers w s at vs) k 0 ≡ get_or s k 0
numbers_past w [] s at k h = refl
numbers_past w (v ∷ vs) s at k h =
    let e : w * suc (length vs) ≡ w * length vs + w = mul-suc w (length vs) in
    numbers_past w vs (with_number s at w v) (at + w) k (omega arith) ∙ (number_keeps s at w v).past k (omega arith)

pub number_same : (s t : List ℕ) (at n : ℕ) → ((k : ℕ) → k < at + n → get_or t k 0 ≡ get_or s k 0) → number t at n ≡ number s at n
unfolding number
number_same s t at zero h = refl
number_same s t at (suc n) h = ap₂ (λ (x b : ℕ). x + b * 256 ^ n) (number_same s t at n (λ k q. h k (omega arith))) (h (at + n) (omega arith))

numbers_read : (w : ℕ) (vs s : List ℕ) (at j : ℕ) → at + w * length vs ≤ length s → ((i : ℕ) → i < length vs → get_or vs i 0 < 256 ^ w) → j < length vs → number (with_numbers w s at vs) (at + w * j) w ≡ get_or vs j 0
numbers_read w [] s at j h b l = absurd (omega arith)
numbers_read w (v ∷ vs) s at zero h b l =
    let e : w * suc (length vs) ≡ w * length vs + w = mul-suc w (length vs) in
    ap (λ (k : ℕ). number (with_numbers w (with_number s at w v) (at + w) vs) k w) (let z : at + w * 0 ≡ at = omega arith in z)
    ∙ number_same (with_number s at w v) (with_numbers w (with_number s at w v) (at + w) vs) at w (λ k q. numbers_keep w vs (with_number s at w v) (at + w) k q)
    ∙ reads_back s at w v (omega arith) (b 0 (zero-lt-suc (length vs)))
numbers_read w (v ∷ vs) s at (suc j) h b l =
    let e : w * suc (length vs) ≡ w * length vs + w = mul-suc w (length vs) in
    let d : at + w * suc j ≡ at + w + w * j = rw (mul-suc w j) (omega arith) in
    ap (λ (k : ℕ). number (with_numbers w (with_number s at w v) (at + w) vs) k w) d
    ∙ numbers_read w vs (with_number s at w v) (at + w) j (rw (length_kept s at w v) (omega arith)) (λ i q. b (suc i) (suc-le-suc q)) (le_of_suc-le-suc l)

-- ---- sample i of channel c of what was read
module _ (s dest : List ℕ) (n : ℕ) (inside : 48 * n ≤ length dest) where
  pub channel_word : (c i : ℕ) → c < 12 → i < n → word (in_channels s n dest) (4 * (c * n + i)) ≡ word_read s c i
  channel_word c i h q =
      let l = table_length (word_read s) n 12 in
      let m : c * n + n ≤ 12 * n = let k : (c + 1) * n ≤ 12 * n = mul-le-mul_right n (omega arith) in omega arith in
      ap (λ (k : ℕ). number (in_channels s n dest) k 4) (let z : 4 * (c * n + i) ≡ 0 + 4 * (c * n + i) = omega arith in z)
      ∙ numbers_read 4 (in_rows (word_read s) 12 n) dest 0 (c * n + i) (omega arith) (λ j k. table_small (word_read s) n (2 ^ 32) (lit< tt) (λ a b. word_small s a b) 12 j) (omega arith)
      ∙ table_read (word_read s) n 12 c i h q

-- ---- code c of sample i stands at 36 i + 3 c, and past all of them is what was there
module _ (out dest : List ℕ) (stride n : ℕ) (inside : 36 * n ≤ length dest) where
  pub code_stands : (i c : ℕ) → i < n → c < 12 → number (interleaved out stride n dest) (36 * i + 3 * c) 3 ≡ code_at out stride i c
  code_stands i c q h =
      let l = table_length (code_at out stride) 12 n in
      ap (λ (k : ℕ). number (interleaved out stride n dest) k 3) (let z : 36 * i + 3 * c ≡ 0 + 3 * (i * 12 + c) = omega arith in z)
      ∙ numbers_read 3 (in_rows (code_at out stride) n 12) dest 0 (i * 12 + c) (omega arith)
      (λ j k. table_small (code_at out stride) 12 16777216 (lit< tt) (λ a b. code_small (float_at out (4 * (b * stride + a)))) n j) (omega arith)
      ∙ table_read (code_at out stride) 12 n i c q h

  pub rest_stands : (k : ℕ) → 36 * n ≤ k → get_or (interleaved out stride n dest) k 0 ≡ get_or dest k 0
  rest_stands k h = numbers_past 3 (in_rows (code_at out stride) n 12) dest 0 k (omega (arith, table_length (code_at out stride) 12 n))

-- ---- each sample passes, and so all do
true_of : (b : Bool) → T b → b ≡ true
true_of true t = refl
true_of false t = absurd t

both_true : (a b : Bool) → a ≡ true → b ≡ true → (a && b) ≡ true
both_true a b e f = rw (e, f) refl

row_all : (s : List ℕ) (at n : ℕ) → ((k : ℕ) → k < n → writable (float_at s (at + 4 * k)) ≡ true) → row_writable s at n ≡ true
unfolding row_writable
row_all s at zero h = refl
row_all s at (suc n) h =
    both_true (writable (float_at s at)) (row_writable s (at + 4) n)
    (ap (λ (k : ℕ). writable (float_at s k)) (let e : at ≡ at + 4 * 0 = omega arith in e) ∙ h 0 (zero-lt-suc n))
    (row_all s (at + 4) n (λ k q. ap (λ (j : ℕ). writable (float_at s j)) (let e : at + 4 + 4 * k ≡ at + 4 * suc k = omega arith in e) ∙ h (suc k) (suc-le-suc q)))

rows_all : (s : List ℕ) (stride count n c : ℕ) → ((d i : ℕ) → d < n → i < count → writable (float_at s (4 * ((c + d) * stride + i))) ≡ true) → rows_writable s stride count n c ≡ true
unfolding rows_writable
rows_all s stride count zero c h = refl
rows_all s stride count (suc n) c h =
    both_true (row_writable s (4 * (c * stride)) count) (rows_writable s stride count n (c + 1))
    (row_all s (4 * (c * stride)) count (λ k q. ap (λ (j : ℕ). writable (float_at s j)) (let e : 4 * (c * stride) + 4 * k ≡ 4 * ((c + 0) * stride + k) = rw (let z : c + 0 ≡ c = omega arith in z) (omega arith) in e) ∙ h 0 k (zero-lt-suc n) q))
    (rows_all s stride count n (c + 1) (λ d i q r. ap (λ (j : ℕ). writable (float_at s (4 * (j * stride + i)))) (let e : c + 1 + d ≡ c + suc d = omega arith in e) ∙ h (suc d) i (suc-le-suc q) r))

-- ---- read into `before`, the words put on channels that stand `stride` apart and not n, and written into `dest`: accepted, and the same bytes
module _ (s before out dest : List ℕ) (stride n : ℕ) (bytes : Bytes s) (whole : length s ≡ 36 * n) (read_into : 48 * n ≤ length before) (rows : has_rows stride (length out) ≡ true)
    (few : n ≤ stride) (bytes_there : Bytes dest) (written_into : 36 * n ≤ length dest) (spaced : (c i : ℕ) → c < 12 → i < n → word out (4 * (c * stride + i)) ≡ word (in_channels s n before) (4 * (c * n + i))) where
  sample_is : (c i : ℕ) → c < 12 → i < n → float_at out (4 * (c * stride + i)) ≡ sample_24 (number s (36 * i + 3 * c) 3)
  unfolding float_at
  sample_is c i h q =
      ap (of_bits binary32) (spaced c i h q ∙ channel_word s before n read_into c i h q) ∙ of_bits-to_bits binary32 (sample_24 (number s (36 * i + 3 * c) 3)) (div-fits binary32 _ _)

  code_read_small : (c i : ℕ) → number s (36 * i + 3 * c) 3 < 16777216
  code_read_small c i = number_small s (36 * i + 3 * c) 3 bytes

  code_is : (c i : ℕ) → c < 12 → i < n → code_at out stride i c ≡ number s (36 * i + 3 * c) 3
  code_is c i h q = ap code_24 (sample_is c i h q) ∙ code_again (number s (36 * i + 3 * c) 3) (code_read_small c i)

  passes : (c i : ℕ) → c < 12 → i < n → writable (float_at out (4 * (c * stride + i))) ≡ true
  passes c i h q =
      let k = number s (36 * i + 3 * c) 3 in
      let b : Bounded (mag 1·0) (sample_24 k) = subst (λ (m : ℕ). Bounded m (sample_24 k)) (sym one_P) (sample_bounded k (code_read_small c i)) in
      ap writable (sample_is c i h q) ∙ true_of (writable (sample_24 k)) ((between_bounded 1·0 (sample_24 k) one_f32 refl (div-fits binary32 _ _)).1 b)

  pub accepted : judged_to_write out stride n (length dest) ≡ Ok n
  accepted =
      let p : rows_writable out stride n 12 0 ≡ true = rows_all out stride n 12 0 (λ d i h q. ap (λ (j : ℕ). writable (float_at out (4 * (j * stride + i)))) (zero-add d) ∙ passes d i h q) in
      rw (rows, le-ltb stride n few, le-ltb (length dest) (36 * n) written_into, p) refl

  pub restored : interleaved out stride n dest ≡ s ++ drop (36 * n) dest
  restored =
      let t : List ℕ = s ++ drop (36 * n) dest in
      let l = table_length (code_at out stride) 12 n in
      let front : (k : ℕ) → k < 36 * n → get_or t k 0 ≡ get_or s k 0 = λ k h. get_or_append_left s (drop (36 * n) dest) 0 k (rw whole h) in
      let back : (k : ℕ) → 36 * n ≤ k → get_or t k 0 ≡ get_or dest k 0 =
      λ k h.
      let d : k ≡ length s + (k - 36 * n) = omega (arith, whole) in
      let e : 36 * n + (k - 36 * n) ≡ k = omega arith in
      ap (λ (j : ℕ). get_or t j 0) d ∙ get_or-append-add s (drop (36 * n) dest) (k - 36 * n) 0 ∙ get_or-drop (36 * n) dest (k - 36 * n) 0 ∙ ap (λ (j : ℕ). get_or dest j 0) e in
      let b : Bytes t = λ k. elim (le_or_lt (36 * n) k) [ inr h ↦ rw (front k h) (bytes k) | inl h ↦ rw (back k h) (bytes_there k) ] in
      sym (laid_is 3 t b (in_rows (code_at out stride) n 12) dest 0 bytes_there (omega arith) (record {
        same_length = length-append s (drop (36 * n) dest) ∙ omega (arith, whole, length-drop (36 * n) dest);
        before = λ k h. absurd (omega arith);
        there = λ j h.
            let i : j / 12 < n = omega arith in
            let r : j % 12 < 12 = omega arith in
            let e : 0 + 3 * j ≡ 36 * (j / 12) + 3 * (j % 12) = omega arith in
            let q : j / 12 * 12 + j % 12 ≡ j = omega arith in
            ap (λ (k : ℕ). number t k 3) e
            ∙ number_same s t (36 * (j / 12) + 3 * (j % 12)) 3 (λ k h. front k (omega arith))
            ∙ sym (code_is (j % 12) (j / 12) r i)
            ∙ sym (table_read (code_at out stride) 12 n (j / 12) (j % 12) i r)
            ∙ ap (λ (k : ℕ). get_or (in_rows (code_at out stride) n 12) k 0) q;
        past = λ k h. back k (omega arith);
      }))
