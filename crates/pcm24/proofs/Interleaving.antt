-- Codes that are put in place four channels at a time, sample after sample. Assumes nothing.
use mathlib.Core.Path.{◌≡◌, refl, sym, ap, subst, ◌∙◌}
use mathlib.Core.Logic.{inl, inr}
use mathlib.Core.List.{List}
use Prim.Native.Nat.{ℕ, ◌+◌, ◌*◌, ◌/◌, ◌%◌, ◌≤◌, ◌<◌}
use native.Mathlib.Omega.{arith}
use lib.ListN.{length, get_or}
use Rattle.words.specs.Words.{Bytes, number, with_number}
use Rattle.ieee.proofs.Theorems.{le_or_lt}
use Rattle.pcm24.specs.Interleaved.{in_rows, with_numbers}
use Rattle.pcm24.proofs.Four.{apart, four, four_stay, four_bytes, four_bytes_stay, first_read, second_read, third_read, fourth_read}
use Rattle.pcm24.proofs.Table.{table_length, table_read}
use Rattle.pcm24.proofs.Laid.{laid_is}

-- in t are the codes of the channels below d of all samples, those of four more of the first m samples, and past all samples what was in s
pub record Put (f : ℕ → ℕ → ℕ) (s t : List ℕ) (count d m : ℕ) : Type 0 where
  pub all : (i c : ℕ) → i < count → c < d → number t (36 * i + 3 * c) 3 ≡ f i c
  pub some : (i c : ℕ) → i < m → c < d + 4 → number t (36 * i + 3 * c) 3 ≡ f i c
  pub past : (k : ℕ) → 36 * count ≤ k → get_or t k 0 ≡ get_or s k 0
  pub bytes_before : Bytes s
  pub bytes : Bytes t

-- four channels more
pub next_four : (f : ℕ → ℕ → ℕ) (s t : List ℕ) (count d e m : ℕ) → e ≡ d + 4 → count ≤ m → Put f s t count d m → Put f s t count e 0
next_four f s t count d e m is n p = record { all = λ i c h l. p.some i c (omega arith) (omega arith); some = λ i c h l. absurd (omega arith); past = p.past; bytes_before = p.bytes_before; bytes = p.bytes }

-- at the start
pub none_put : (f : ℕ → ℕ → ℕ) (s : List ℕ) (count d : ℕ) → d ≡ 0 → Bytes s → Put f s s count d 0
none_put f s count d z b = record { all = λ i c h l. absurd (omega arith); some = λ i c h l. absurd (omega arith); past = λ k h. refl; bytes_before = b; bytes = b }

-- one sample more
module _ (f : ℕ → ℕ → ℕ) (s t : List ℕ) (count d m p : ℕ) (v0 v1 v2 v3 : ℕ) (inside : 36 * count ≤ length t) (few : d ≤ 8) (more : m < count) (place : p ≡ 36 * m + 3 * d)
    (small : (c : ℕ) → f m c < 16777216) (e0 : v0 ≡ f m d) (e1 : v1 ≡ f m (d + 1)) (e2 : v2 ≡ f m (d + 2)) (e3 : v3 ≡ f m (d + 3)) (before : Put f s t count d m) where
  abbrev after : List ℕ
  after = four 3 t p (p + 3) (p + 6) (p + 9) v0 v1 v2 v3

  stays : (i c : ℕ) → (p < 36 * i + 3 * c + 3 → p + 12 ≤ 36 * i + 3 * c) → number after (36 * i + 3 * c) 3 ≡ number t (36 * i + 3 * c) 3
  stays i c h =
      let q = 36 * i + 3 * c in
      four_stay 3 t p (p + 3) (p + 6) (p + 9) v0 v1 v2 v3 q 3
      (apart q 3 3 p (λ g. let k = h g in omega arith))
      (apart q 3 3 (p + 3) (λ g. let k = h (omega arith) in omega arith))
      (apart q 3 3 (p + 6) (λ g. let k = h (omega arith) in omega arith))
      (apart q 3 3 (p + 9) (λ g. let k = h (omega arith) in omega arith))

  new : (c : ℕ) → d ≤ c → c < d + 4 → number after (36 * m + 3 * c) 3 ≡ f m c
  new c l h = elim (le_or_lt (d + 1) c) [
    | inr a ↦
        let k : c ≡ d = omega arith in
        let q : 36 * m + 3 * c ≡ p = omega arith in
        rw (q, k) (first_read 3 t p (p + 3) (p + 6) (p + 9) v0 v1 v2 v3 (omega arith) (omega arith) (omega arith) (omega arith) (rw e0 (small d)) ∙ e0)
    | inl a ↦ elim (le_or_lt (d + 2) c) [
      | inr b ↦
          let k : c ≡ d + 1 = omega arith in
          let q : 36 * m + 3 * (d + 1) ≡ p + 3 = omega arith in
          rw (k, q) (second_read 3 t p (p + 3) (p + 6) (p + 9) v0 v1 v2 v3 (omega arith) (omega arith) (omega arith) (omega arith) (rw e1 (small (d + 1))) ∙ e1)
      | inl b ↦ elim (le_or_lt (d + 3) c) [
        | inr g ↦
            let k : c ≡ d + 2 = omega arith in
            let q : 36 * m + 3 * (d + 2) ≡ p + 6 = omega arith in
            rw (k, q) (third_read 3 t p (p + 3) (p + 6) (p + 9) v0 v1 v2 v3 (omega arith) (omega arith) (omega arith) (omega arith) (rw e2 (small (d + 2))) ∙ e2)
        | inl g ↦
            let k : c ≡ d + 3 = omega arith in
            let q : 36 * m + 3 * (d + 3) ≡ p + 9 = omega arith in
            rw (k, q) (fourth_read 3 t p (p + 3) (p + 6) (p + 9) v0 v1 v2 v3 (omega arith) (omega arith) (omega arith) (omega arith) (rw e3 (small (d + 3))) ∙ e3)
      ]
    ]
  ]

  pub one_more : Put f s after count d (m + 1)
  one_more = record {
    all = λ i c h l. stays i c (λ g. omega arith) ∙ before.all i c h l;
    some = λ i c h l. elim (le_or_lt m i) [
      | inr a ↦ stays i c (λ g. absurd (omega arith)) ∙ before.some i c a l
      | inl a ↦
          let k : i ≡ m = omega arith in
          elim (le_or_lt d c) [
            | inr b ↦ stays i c (λ g. absurd (omega arith)) ∙ before.all i c (omega arith) b
            | inl b ↦ rw k (new c b l)
          ]
    ];
    past = λ k h.
        four_bytes_stay 3 t p (p + 3) (p + 6) (p + 9) v0 v1 v2 v3 k
        (apart k 1 3 p (λ g. omega arith)) (apart k 1 3 (p + 3) (λ g. omega arith)) (apart k 1 3 (p + 6) (λ g. omega arith)) (apart k 1 3 (p + 9) (λ g. omega arith))
        ∙ before.past k h;
    bytes_before = before.bytes_before;
    bytes = four_bytes 3 t p (p + 3) (p + 6) (p + 9) v0 v1 v2 v3 before.bytes;
  }

-- the same, store by store
pub four_more : (f : ℕ → ℕ → ℕ) (s t : List ℕ) (count d m p : ℕ) {v0 v1 v2 v3 : ℕ} {t1 t2 t3 t4 : List ℕ} → 36 * count ≤ length t → d ≤ 8 → m < count → p ≡ 36 * m + 3 * d
    → ((c : ℕ) → f m c < 16777216) → v0 ≡ f m d → v1 ≡ f m (d + 1) → v2 ≡ f m (d + 2) → v3 ≡ f m (d + 3)
    → t1 ≡ with_number t p 3 v0 → t2 ≡ with_number t1 (p + 3) 3 v1 → t3 ≡ with_number t2 (p + 6) 3 v2 → t4 ≡ with_number t3 (p + 9) 3 v3
    → Put f s t count d m → Put f s t4 count d (m + 1)
four_more f s t count d m p {v0} {v1} {v2} {v3} inside few more place small e0 e1 e2 e3 k0 k1 k2 k3 before =
    subst (λ (x : List ℕ). Put f s x count d (m + 1))
    (sym (k3 ∙ ap (λ (x : List ℕ). with_number x (p + 9) 3 v3) (k2 ∙ ap (λ (x : List ℕ). with_number x (p + 6) 3 v2) (k1 ∙ ap (λ (x : List ℕ). with_number x (p + 3) 3 v1) k0))))
    (one_more f s t count d m p v0 v1 v2 v3 inside few more place small e0 e1 e2 e3 before)

-- all of them
pub all_put : (f : ℕ → ℕ → ℕ) (s t : List ℕ) (count d : ℕ) → 12 ≤ d → length t ≡ length s → 36 * count ≤ length s → Put f s t count d 0 → t ≡ with_numbers 3 s 0 (in_rows f count 12)
all_put f s t count d z same inside p =
    let n = table_length f 12 count in
    laid_is 3 t p.bytes (in_rows f count 12) s 0 p.bytes_before (omega arith) (record {
      same_length = same;
      before = λ k h. absurd (omega arith);
      there = λ j h.
          let l : j < 12 * count = omega arith in
          let i : j / 12 < count = omega arith in
          let r : j % 12 < 12 = omega arith in
          let e : 0 + 3 * j ≡ 36 * (j / 12) + 3 * (j % 12) = omega arith in
          let q : j / 12 * 12 + j % 12 ≡ j = omega arith in
          ap (λ (k : ℕ). number t k 3) e ∙ p.all (j / 12) (j % 12) i (omega arith) ∙ sym (table_read f 12 count (j / 12) (j % 12) i r) ∙ ap (λ (k : ℕ). get_or (in_rows f count 12) k 0) q;
      past = λ k h. p.past k (omega arith);
    })
