-- Words that are put in place on four channels at a time, sample after sample. Assumes nothing.
use mathlib.Core.Path.{◌≡◌, refl, sym, ap, subst, ◌∙◌}
use mathlib.Core.Logic.{inl, inr}
use mathlib.Core.List.{List}
use Prim.Native.Nat.{ℕ, ◌+◌, ◌-◌, ◌*◌, ◌^◌, ◌≤◌, ◌<◌}
use native.Mathlib.Omega.{arith}
use lib.ListN.{length, get_or}
use lib.Ieee.{binary32}
use lib.Ieee.Bits.{to_bits-lt}
use lib.Ieee.Fits.{div-fits}
use Rattle.words.specs.Words.{Bytes, number, with_number}
use Rattle.ieee.proofs.Theorems.{le_or_lt}
use Rattle.pcm24.specs.Codes.{sample_24}
use Rattle.pcm24.specs.Interleaved.{in_rows, with_numbers, word_read}
use Rattle.pcm24.proofs.Four.{apart, four, four_bytes, four_stay, four_bytes_stay, first_read, second_read, third_read, fourth_read}
use Rattle.pcm24.proofs.Table.{table_length}
use Rattle.pcm24.proofs.Laid.{laid_is}

-- a sample's word
pub word_small : (s : List ℕ) (c i : ℕ) → word_read s c i < 2 ^ 32
word_small s c i = to_bits-lt binary32 (sample_24 (number s (36 * i + 3 * c) 3)) (div-fits binary32 _ _)

-- in t are the first X words, the first m of the n words on each of four channels that start there, and past all words what was in s
pub record Spread (f : ℕ → ℕ) (s t : List ℕ) (n X m : ℕ) : Type 0 where
  pub all : (k : ℕ) → k < X → number t (4 * k) 4 ≡ f k
  pub first : (j : ℕ) → j < m → number t (4 * (X + j)) 4 ≡ f (X + j)
  pub second : (j : ℕ) → j < m → number t (4 * (X + n + j)) 4 ≡ f (X + n + j)
  pub third : (j : ℕ) → j < m → number t (4 * (X + 2 * n + j)) 4 ≡ f (X + 2 * n + j)
  pub fourth : (j : ℕ) → j < m → number t (4 * (X + 3 * n + j)) 4 ≡ f (X + 3 * n + j)
  pub past : (k : ℕ) → 48 * n ≤ k → get_or t k 0 ≡ get_or s k 0
  pub bytes_before : Bytes s
  pub bytes : Bytes t

-- at the start
pub none_spread : (f : ℕ → ℕ) (s : List ℕ) (n X : ℕ) → X ≡ 0 → Bytes s → Spread f s s n X 0
none_spread f s n X z b = record {
  all = λ k h. absurd (omega arith);
  first = λ j h. absurd (omega arith);
  second = λ j h. absurd (omega arith);
  third = λ j h. absurd (omega arith);
  fourth = λ j h. absurd (omega arith);
  past = λ k h. refl;
  bytes_before = b;
  bytes = b;
}

-- four channels more
pub next_spread : (f : ℕ → ℕ) (s t : List ℕ) (n X Y m : ℕ) → Y ≡ X + 4 * n → n ≤ m → Spread f s t n X m → Spread f s t n Y 0
next_spread f s t n X Y m is h p = record {
  all = λ k l. elim (le_or_lt X k) [
    | inr a ↦ p.all k a
    | inl a ↦ elim (le_or_lt (X + n) k) [
      | inr b ↦ at k (X + (k - X)) (omega arith) (p.first (k - X) (omega arith))
      | inl b ↦ elim (le_or_lt (X + 2 * n) k) [
        | inr c ↦ at k (X + n + (k - (X + n))) (omega arith) (p.second (k - (X + n)) (omega arith))
        | inl c ↦ elim (le_or_lt (X + 3 * n) k) [
          | inr d ↦ at k (X + 2 * n + (k - (X + 2 * n))) (omega arith) (p.third (k - (X + 2 * n)) (omega arith))
          | inl d ↦ at k (X + 3 * n + (k - (X + 3 * n))) (omega arith) (p.fourth (k - (X + 3 * n)) (omega arith))
        ]
      ]
    ]
  ];
  first = λ j l. absurd (omega arith);
  second = λ j l. absurd (omega arith);
  third = λ j l. absurd (omega arith);
  fourth = λ j l. absurd (omega arith);
  past = p.past;
  bytes_before = p.bytes_before;
  bytes = p.bytes;
}
  where
    at : (k q : ℕ) → q ≡ k → number t (4 * q) 4 ≡ f q → number t (4 * k) 4 ≡ f k
    at k q e = subst (λ (x : ℕ). number t (4 * x) 4 ≡ f x) e

-- one sample more
module _ (f : ℕ → ℕ) (s t : List ℕ) (n X m p : ℕ) (v0 v1 v2 v3 : ℕ) (inside : 48 * n ≤ length t) (few : X + 4 * n ≤ 12 * n) (more : m < n) (place : p ≡ 4 * (X + m))
    (s0 : v0 < 2 ^ 32) (s1 : v1 < 2 ^ 32) (s2 : v2 < 2 ^ 32) (s3 : v3 < 2 ^ 32)
    (e0 : v0 ≡ f (X + m)) (e1 : v1 ≡ f (X + n + m)) (e2 : v2 ≡ f (X + 2 * n + m)) (e3 : v3 ≡ f (X + 3 * n + m)) (before : Spread f s t n X m) where
  abbrev after : List ℕ
  after = four 4 t p (p + 4 * n) (p + 8 * n) (p + 12 * n) v0 v1 v2 v3

  stays : (q : ℕ) → (p < q + 4 → p + 4 ≤ q) → (p + 4 * n < q + 4 → p + 4 * n + 4 ≤ q) → (p + 8 * n < q + 4 → p + 8 * n + 4 ≤ q) → (p + 12 * n < q + 4 → p + 12 * n + 4 ≤ q)
      → number after q 4 ≡ number t q 4
  stays q a b c d =
      four_stay 4 t p (p + 4 * n) (p + 8 * n) (p + 12 * n) v0 v1 v2 v3 q 4
      (apart q 4 4 p a) (apart q 4 4 (p + 4 * n) b) (apart q 4 4 (p + 8 * n) c) (apart q 4 4 (p + 12 * n) d)

  abbrev Reads : (at v : ℕ) → Type 0
  Reads at v = number after at 4 ≡ v

  here : (j at k v : ℕ) → m ≤ j → j < m + 1 → at ≡ 4 * (k + m) → Reads at v → v ≡ f (k + m) → number after (4 * (k + j)) 4 ≡ f (k + j)
  here j at k v l h e r is =
      let d : m ≡ j = omega arith in
      subst (λ (x : ℕ). number after (4 * (k + x)) 4 ≡ f (k + x)) d (rw (sym e) (r ∙ is))

  r0 : Reads p v0
  r0 = first_read 4 t p (p + 4 * n) (p + 8 * n) (p + 12 * n) v0 v1 v2 v3 (omega arith) (omega arith) (omega arith) (omega arith) s0

  r1 : Reads (p + 4 * n) v1
  r1 = second_read 4 t p (p + 4 * n) (p + 8 * n) (p + 12 * n) v0 v1 v2 v3 (omega arith) (omega arith) (omega arith) (omega arith) s1

  r2 : Reads (p + 8 * n) v2
  r2 = third_read 4 t p (p + 4 * n) (p + 8 * n) (p + 12 * n) v0 v1 v2 v3 (omega arith) (omega arith) (omega arith) (omega arith) s2

  r3 : Reads (p + 12 * n) v3
  r3 = fourth_read 4 t p (p + 4 * n) (p + 8 * n) (p + 12 * n) v0 v1 v2 v3 (omega arith) (omega arith) (omega arith) (omega arith) s3

  pub one_spread : Spread f s after n X (m + 1)
  one_spread = record {
    all = λ k h. stays (4 * k) (λ g. omega arith) (λ g. omega arith) (λ g. omega arith) (λ g. omega arith) ∙ before.all k h;
    first = λ j h. elim (le_or_lt m j) [
      | inr l ↦ stays (4 * (X + j)) (λ g. omega arith) (λ g. omega arith) (λ g. omega arith) (λ g. omega arith) ∙ before.first j l
      | inl l ↦ here j p X v0 l h (omega arith) r0 e0
    ];
    second = λ j h. elim (le_or_lt m j) [
      | inr l ↦ stays (4 * (X + n + j)) (λ g. omega arith) (λ g. omega arith) (λ g. omega arith) (λ g. omega arith) ∙ before.second j l
      | inl l ↦ here j (p + 4 * n) (X + n) v1 l h (omega arith) r1 e1
    ];
    third = λ j h. elim (le_or_lt m j) [
      | inr l ↦ stays (4 * (X + 2 * n + j)) (λ g. omega arith) (λ g. omega arith) (λ g. omega arith) (λ g. omega arith) ∙ before.third j l
      | inl l ↦ here j (p + 8 * n) (X + 2 * n) v2 l h (omega arith) r2 e2
    ];
    fourth = λ j h. elim (le_or_lt m j) [
      | inr l ↦ stays (4 * (X + 3 * n + j)) (λ g. omega arith) (λ g. omega arith) (λ g. omega arith) (λ g. omega arith) ∙ before.fourth j l
      | inl l ↦ here j (p + 12 * n) (X + 3 * n) v3 l h (omega arith) r3 e3
    ];
    past = λ k h.
        four_bytes_stay 4 t p (p + 4 * n) (p + 8 * n) (p + 12 * n) v0 v1 v2 v3 k
        (apart k 1 4 p (λ g. omega arith)) (apart k 1 4 (p + 4 * n) (λ g. omega arith)) (apart k 1 4 (p + 8 * n) (λ g. omega arith)) (apart k 1 4 (p + 12 * n) (λ g. omega arith))
        ∙ before.past k h;
    bytes_before = before.bytes_before;
    bytes = four_bytes 4 t p (p + 4 * n) (p + 8 * n) (p + 12 * n) v0 v1 v2 v3 before.bytes;
  }

-- the same, store by store
pub spread_more : (f : ℕ → ℕ) (s t : List ℕ) (n X m p : ℕ) {v0 v1 v2 v3 : ℕ} {t1 t2 t3 t4 : List ℕ} → 48 * n ≤ length t → X + 4 * n ≤ 12 * n → m < n → p ≡ 4 * (X + m)
    → v0 < 2 ^ 32 → v1 < 2 ^ 32 → v2 < 2 ^ 32 → v3 < 2 ^ 32 → v0 ≡ f (X + m) → v1 ≡ f (X + n + m) → v2 ≡ f (X + 2 * n + m) → v3 ≡ f (X + 3 * n + m)
    → t1 ≡ with_number t p 4 v0 → t2 ≡ with_number t1 (p + 4 * n) 4 v1 → t3 ≡ with_number t2 (p + 8 * n) 4 v2 → t4 ≡ with_number t3 (p + 12 * n) 4 v3
    → Spread f s t n X m → Spread f s t4 n X (m + 1)
spread_more f s t n X m p {v0} {v1} {v2} {v3} inside few more place s0 s1 s2 s3 e0 e1 e2 e3 k0 k1 k2 k3 before =
    subst (λ (x : List ℕ). Spread f s x n X (m + 1))
    (sym (k3 ∙ ap (λ (x : List ℕ). with_number x (p + 12 * n) 4 v3) (k2 ∙ ap (λ (x : List ℕ). with_number x (p + 8 * n) 4 v2) (k1 ∙ ap (λ (x : List ℕ). with_number x (p + 4 * n) 4 v1) k0))))
    (one_spread f s t n X m p v0 v1 v2 v3 inside few more place s0 s1 s2 s3 e0 e1 e2 e3 before)

-- all of them
pub all_spread : (f : ℕ → ℕ → ℕ) (s t : List ℕ) (n X : ℕ) → 12 * n ≤ X → length t ≡ length s → 48 * n ≤ length s → Spread (λ k. get_or (in_rows f 12 n) k 0) s t n X 0
    → t ≡ with_numbers 4 s 0 (in_rows f 12 n)
all_spread f s t n X z same inside p =
    let l = table_length f n 12 in
    laid_is 4 t p.bytes (in_rows f 12 n) s 0 p.bytes_before (omega arith) (record {
      same_length = same;
      before = λ k h. absurd (omega arith);
      there = λ j h. ap (λ (k : ℕ). number t k 4) (let e : 0 + 4 * j ≡ 4 * j = omega arith in e) ∙ p.all j (omega arith);
      past = λ k h. p.past k (omega arith);
    })
