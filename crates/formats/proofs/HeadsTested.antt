-- Heads of infos tested by their format, and together: an OR is below a power of two where both terms are. Assumes nothing.
use mathlib.Core.Path.{◌≡◌, refl, sym, ap, ap₂, subst, ◌∙◌}
use mathlib.Core.Bool.{Bool, true, false, ◌&&◌}
use mathlib.Core.List.{List}
use Prim.Native.Nat.{ℕ, zero, suc, ◌+◌, ◌-◌, ◌*◌, ◌/◌, ◌%◌, ◌^◌, ◌<◌, ◌≤◌}
use native.Mathlib.Omega.{arith}
use borrow.Author.Tests.{ltb-true, ltb-false, lt-ltb, le-ltb}
use lib.Bits.{bit_or, bit_and, or_lt, or_mod, or_add_and, and_le_l, and_le_r}
use lib.Dec.{T, ltb}
use lib.ListN.{get_or}
use Rattle.words.specs.Words.{word, words_at}
use Rattle.formats.specs.Format.{all_at, array}
use Rattle.formats.specs.Info.{head_valid, info_format}
use Rattle.formats.specs.Areas.{info_count, info_bytes, heads_valid}
use Rattle.formats.proofs.Places.{word_of_run}
use Rattle.formats.proofs.Loops.{and_true, and_assoc}
use Rattle.formats.proofs.LawfulInfo.{head_within, head_exact, infos_test}

or_below : (k a b : ℕ) → ltb (bit_or a b) (2 ^ k) ≡ (ltb a (2 ^ k) && ltb b (2 ^ k))
or_below k a b = by (ltb a (2 ^ k)) refl (ltb b (2 ^ k)) refl
  where
    sum : bit_or a b + bit_and a b ≡ a + b
    sum = or_add_and a b

    by : (x : Bool) → ltb a (2 ^ k) ≡ x → (y : Bool) → ltb b (2 ^ k) ≡ y → ltb (bit_or a b) (2 ^ k) ≡ (x && y)
    by true p true q = lt-ltb _ _ (or_lt k a b (ltb-true _ _ p) (ltb-true _ _ q))
    by true p false q = le-ltb (bit_or a b) (2 ^ k) (let m = ltb-false b (2 ^ k) q in let l = and_le_l a b in let s = sum in omega arith)
    by false p y q = le-ltb (bit_or a b) (2 ^ k) (let m = ltb-false a (2 ^ k) p in let l = and_le_r a b in let s = sum in omega arith)

-- an anchor below 3, plus 1 in its byte
anchor_below : (h : ℕ) → ltb (h % 65536 + 256) 1024 ≡ ltb (h / 256 % 256) 3
anchor_below h = by (ltb (h / 256 % 256) 3) refl
  where
    by : (x : Bool) → ltb (h / 256 % 256) 3 ≡ x → ltb (h % 65536 + 256) 1024 ≡ x
    by true p = lt-ltb (h % 65536 + 256) 1024 (let l = ltb-true (h / 256 % 256) 3 p in omega arith)
    by false p = le-ltb (h % 65536 + 256) 1024 (let l = ltb-false (h / 256 % 256) 3 p in omega arith)

-- what is tested of the OR of all heads and that of their anchors
abbrev pub together : ℕ → ℕ → Bool
together heads anchors = ltb heads 262144 && ltb (heads % 256) 64 && ltb anchors 1024

pairs : (a b c x y z : Bool) → ((a && x) && (b && y) && (c && z)) ≡ ((a && b && c) && (x && y && z))
pairs false b c x y z = refl
pairs true false c false y z = refl
pairs true false c true y z = refl
pairs true true false false y z = refl
pairs true true false true false z = refl
pairs true true false true true z = refl
pairs true true true false y z = refl
pairs true true true true y z = refl

-- one head more
pub together_more : (heads anchors h : ℕ) → together (bit_or heads h) (bit_or anchors (h % 65536 + 256)) ≡ (together heads anchors && head_valid h)
together_more a b h =
    rw (or_mod a h 8, or_below 18 a h, or_below 6 (a % 256) (h % 256), or_below 10 b (h % 65536 + 256), anchor_below h)
    (pairs (ltb a 262144) (ltb (a % 256) 64) (ltb b 1024) (ltb h 262144) (ltb (h % 256) 64) (ltb (h / 256 % 256) 3))

-- ---- an OR of heads that is in range

or_from_l : (a b : ℕ) → a ≤ bit_or a b
or_from_l a b = let s = or_add_and a b in let l = and_le_r a b in omega arith

or_from_r : (a b : ℕ) → b ≤ bit_or a b
or_from_r a b = let s = or_add_and a b in let l = and_le_l a b in omega arith

-- no field of n is above that of m
head_under : (n m : ℕ) → n ≤ m → n % 256 ≤ m % 256 → n % 65536 ≤ m % 65536 → T (head_valid m) → T (head_valid n)
head_under n m whole flags anchor t =
    let h = head_within m t in
    let f = h.flags in
    let a = h.anchor in
    let d = h.depth in
    head_exact n (record { flags = omega arith; anchor = omega arith; depth = omega arith })

or_valid : (a b : ℕ) → T (head_valid (bit_or a b)) → T (head_valid a) × T (head_valid b)
or_valid a b t = (
  head_under a (bit_or a b) (or_from_l a b) (rw (or_mod a b 8) (or_from_l (a % 256) (b % 256))) (rw (or_mod a b 16) (or_from_l (a % 65536) (b % 65536))) t,
  head_under b (bit_or a b) (or_from_r a b) (rw (or_mod a b 8) (or_from_r (a % 256) (b % 256))) (rw (or_mod a b 16) (or_from_r (a % 65536) (b % 65536))) t,
)

-- ---- the heads of infos

module _ (is : List ℕ) where
  -- from word `a` of a run of m words on
  heads_run : (at m n a : ℕ) → a + info_format.width * n ≤ m
      → heads_valid is (at + 4 * a) n ≡ all_at (λ i. head_valid (get_or (words_at is at m) i 0)) info_format.width n a
  unfolding heads_valid all_at
  heads_run at m zero a h = refl
  heads_run at m (suc n) a h =
      let e : at + 4 * a + info_bytes ≡ at + 4 * (a + info_format.width) = omega arith in
      ap₂ ◌&&◌ (ap head_valid (sym (word_of_run is at m a (at + 4 * a) (omega arith) refl)))
      (ap (λ (q : ℕ). heads_valid is q n) e ∙ heads_run at m n (a + info_format.width) (omega arith))

  -- the heads of n infos are valid exactly if the words of the infos pass the test of their format
  pub heads_format : (n : ℕ) → heads_valid is 0 n ≡ (array n info_format).test (words_at is 0 (n * info_format.width)) 0
  heads_format n = heads_run 0 (n * info_format.width) n 0 (omega arith) ∙ sym (infos_test (words_at is 0 (n * info_format.width)) n 0)

  heads_next : (k n : ℕ) → k < n
      → heads_valid is (info_bytes * k) (n - k) ≡ (head_valid (word is (info_bytes * k)) && heads_valid is (info_bytes * (k + 1)) (n - (k + 1)))
  unfolding heads_valid
  heads_next k n h =
      let e : n - k ≡ suc (n - (k + 1)) = omega arith in
      let a : info_bytes * k + info_bytes ≡ info_bytes * (k + 1) = omega arith in
      rw e (ap (λ (q : ℕ). head_valid (word is (info_bytes * k)) && heads_valid is q (n - (k + 1))) a)

module _ (is : List ℕ) (heads anchors k : ℕ) where
  -- what is left to test from info j on
  abbrev rest : ℕ → Bool
  rest j = heads_valid is (info_bytes * j) (info_count - j)

  pub heads_more : (h : ℕ) → k < info_count → h ≡ word is (info_bytes * k)
      → (together (bit_or heads h) (bit_or anchors (h % 65536 + 256)) && rest (k + 1)) ≡ (together heads anchors && rest k)
  heads_more h l e =
      ap (λ (x : Bool). x && rest (k + 1)) (together_more heads anchors h)
      ∙ and_assoc (together heads anchors) (head_valid h) (rest (k + 1))
      ∙ ap (λ (x : Bool). together heads anchors && x) (ap (λ (n : ℕ). head_valid n && rest (k + 1)) e ∙ sym (heads_next is k info_count l))

  pub heads_all : k ≤ info_count → info_count ≤ k → (together heads anchors && rest k) ≡ heads_valid is 0 info_count
      → heads_valid is 0 info_count ≡ together heads anchors
  unfolding heads_valid
  heads_all l m e =
      let z : info_count - k ≡ 0 = omega arith in
      sym e ∙ ap (λ (n : ℕ). together heads anchors && heads_valid is (info_bytes * k) n) z ∙ and_true (together heads anchors) true refl

-- the same, where the OR of the heads so far is in range
module _ (is : List ℕ) where
  pub joined_more : (heads k h : ℕ) → k < info_count → h ≡ word is (info_bytes * k)
      → (T (head_valid heads) → heads_valid is (info_bytes * k) (info_count - k) ≡ heads_valid is 0 info_count)
      → T (head_valid (bit_or heads h)) → heads_valid is (info_bytes * (k + 1)) (info_count - (k + 1)) ≡ heads_valid is 0 info_count
  joined_more heads k h l e f t =
      let (a, b) = or_valid heads h t in
      ap (λ (x : Bool). x && heads_valid is (info_bytes * (k + 1)) (info_count - (k + 1)))
      (sym (true_of (head_valid (word is (info_bytes * k))) (subst (λ (n : ℕ). T (head_valid n)) e b)))
      ∙ sym (heads_next is k info_count l) ∙ f a
    where
      true_of : (x : Bool) → T x → x ≡ true
      true_of true u = refl
      true_of false u = elim u [ ]

  pub joined_all : (k : ℕ) → k ≤ info_count → info_count ≤ k → heads_valid is (info_bytes * k) (info_count - k) ≡ heads_valid is 0 info_count → heads_valid is 0 info_count ≡ true
  unfolding heads_valid
  joined_all k l m e = let z : info_count - k ≡ 0 = omega arith in sym e ∙ ap (λ (n : ℕ). heads_valid is (info_bytes * k) n) z
