-- The laws of one word, and of two. Assumes nothing.
use mathlib.Core.Path.{◌≡◌, refl, sym, ap, ap₂, subst, ◌∙◌}
use mathlib.Core.Bool.{Bool, true, false}
use mathlib.Core.List.{List, [], ◌∷◌}
use Prim.Native.Nat.{ℕ, zero, suc, ◌+◌, ◌*◌, ◌/◌, ◌%◌, ◌^◌, ◌<◌, ◌≤◌}
use native.Mathlib.Nat.{add-zero, mod-lt, mod-le, mod-eq_of_lt, mod-add-div', le_trans}
use native.Mathlib.Omega.{arith}
use lib.Dec.{T, eqb, leb, ltb, leb→le, le→leb, ltb→lt, lt→ltb, lit<, lit≤}
use lib.ListN.{get_or}
use lib.Ieee.{binary32, of_bits}
use lib.Ieee.Bits.{of_bits-to_bits, of_bits-fits, to_bits-lt}
use Rattle.formats.specs.NumberWords.{low, high, bit, Single, bits}
use Rattle.formats.specs.Format.{Stands, one_word, u32_where, u32_to, u32_below, usize_to, u8_to, flag, three_bits, three_of, three_flags, float, u64_to}
use Rattle.formats.specs.Lawful.{Lawful}
use Rattle.formats.proofs.Places.{stands_at, stands_rest, same_at}

-- what the parts of a word owe
pub record Worded {A : Type 0} (put : A → ℕ) (of : ℕ → A) (p : ℕ → Bool) (In : A → Type 0) (Plain : ℕ → Type 0) : Type 0 where
  pub small : (x : A) → In x → put x < 2 ^ 32
  pub again : (x : A) → In x → of (put x) ≡ x
  pub tidy : (x : A) → In x → Plain (put x)
  pub within : (n : ℕ) → T (p n) → In (of n)
  pub plain : (n : ℕ) → T (p n) → Plain n
  pub exact : (n : ℕ) → In (of n) → Plain n → T (p n)

pub lawful_one_word : {A : Type 0} (put : A → ℕ) (of : ℕ → A) (p : ℕ → Bool) (In : A → Type 0) (Plain : ℕ → Type 0) → Worded put of p In Plain → Lawful (one_word put of p In Plain)
lawful_one_word put of p In Plain h =
    record {
      long = λ x. refl;
      words = λ x i. (h.small x i, tt);
      back = λ x i w at s. ap of (stands_at w at (put x) [] s) ∙ h.again x i;
      tidy = λ x i w at s. subst Plain (sym (stands_at w at (put x) [] s)) (h.tidy x i);
      within = λ w at t. h.within (get_or w at 0) t;
      plain = λ w at t. h.plain (get_or w at 0) t;
      exact = λ w at i c. h.exact (get_or w at 0) i c;
      beside = λ v a w b s. ap of (same_at v a w b 0 s);
      untouched = λ v a w b s. ap p (same_at v a w b 0 s);
      reads = λ w at x e. e;
      spells = λ w at x e i l. one w at (put x) e i l;
    }
  where
    one : (w : List ℕ) (at n : ℕ) → get_or w at 0 ≡ n → Stands w at (n ∷ [])
    one w at n e zero l = rw add-zero e
    one w at n e (suc i) l = absurd (omega arith)

pub lawful_u32_where : (p : ℕ → Bool) → ((n : ℕ) → T (p n) → n < 2 ^ 32) → Lawful (u32_where p)
lawful_u32_where p h =
    lawful_one_word (λ n. n) (λ n. n) p (λ n. T (p n)) (λ n. Unit {0})
    (record { small = h; again = λ n i. refl; tidy = λ n i. tt; within = λ n t. t; plain = λ n t. tt; exact = λ n i c. i })

pub lawful_u32_to : (limit : ℕ) → limit < 2 ^ 32 → Lawful (u32_to limit)
lawful_u32_to limit h =
    lawful_one_word (λ n. n) (λ n. n) (λ n. leb n limit) (λ n. n ≤ limit) (λ n. Unit {0})
    (record { small = λ n i. omega arith; again = λ n i. refl; tidy = λ n i. tt; within = λ n t. leb→le n limit t; plain = λ n t. tt; exact = λ n i c. le→leb n limit i })

pub lawful_u32_below : (bound : ℕ) → bound ≤ 2 ^ 32 → Lawful (u32_below bound)
lawful_u32_below bound h =
    lawful_one_word (λ n. n) (λ n. n) (λ n. ltb n bound) (λ n. n < bound) (λ n. Unit {0})
    (record { small = λ n i. omega arith; again = λ n i. refl; tidy = λ n i. tt; within = λ n t. ltb→lt n bound t; plain = λ n t. tt; exact = λ n i c. lt→ltb n bound i })

pub lawful_usize_to : (limit : ℕ) → limit < 2 ^ 32 → Lawful (usize_to limit)
lawful_usize_to limit h =
    lawful_one_word low (λ n. n) (λ n. leb n limit) (λ n. n ≤ limit) (λ n. Unit {0})
    (record {
      small = λ n i. mod-lt n (lit< tt);
      again = λ n i. let l : n < 4294967296 = omega arith in mod-eq_of_lt l;
      tidy = λ n i. tt;
      within = λ n t. leb→le n limit t;
      plain = λ n t. tt;
      exact = λ n i c. le→leb n limit i;
    })

pub lawful_u8_to : (limit : ℕ) → limit < 256 → Lawful (u8_to limit)
lawful_u8_to limit h =
    lawful_one_word (λ n. n) (λ n. n % 256) (λ n. leb n limit) (λ n. n ≤ limit) (λ n. n < 256)
    (record {
      small = λ n i. omega arith;
      again = λ n i. let l : n < 256 = omega arith in mod-eq_of_lt l;
      tidy = λ n i. omega arith;
      within = λ n t. le_trans (mod-le n 256) (leb→le n limit t);
      plain = λ n t. let l = leb→le n limit t in omega arith;
      exact = λ n i c. le→leb n limit (rw (mod-eq_of_lt c) at i);
    })

bit_most : (b : Bool) → bit b ≤ 1
bit_most true = lit≤ tt
bit_most false = lit≤ tt

pub lawful_flag : Lawful flag
lawful_flag =
    lawful_one_word bit (λ n. eqb n 1) (λ n. leb n 1) (λ b. Unit {0}) (λ n. n ≤ 1)
    (record {
      small = λ b i. let l = bit_most b in omega arith;
      again = λ b i. bit_back b;
      tidy = λ b i. bit_most b;
      within = λ n t. tt;
      plain = λ n t. leb→le n 1 t;
      exact = λ n i c. le→leb n 1 c;
    })
  where
    bit_back : (b : Bool) → eqb (bit b) 1 ≡ b
    bit_back true = refl
    bit_back false = refl

pub lawful_three_flags : Lawful three_flags
lawful_three_flags =
    lawful_one_word three_bits three_of (λ n. leb n 7) (λ x. Unit {0}) (λ n. n ≤ 7)
    (record {
      small = λ x i. let l = most x in omega arith;
      again = λ x i. back x.0 x.1.0 x.1.1;
      tidy = λ x i. most x;
      within = λ n t. tt;
      plain = λ n t. leb→le n 7 t;
      exact = λ n i c. le→leb n 7 c;
    })
  where
    most : (x : Bool × (Bool × Bool)) → three_bits x ≤ 7
    most x = let a = bit_most x.0 in let b = bit_most x.1.0 in let c = bit_most x.1.1 in omega arith

    back : (a b c : Bool) → three_of (three_bits (a, (b, c))) ≡ (a, (b, c))
    back true true true = refl
    back true true false = refl
    back true false true = refl
    back true false false = refl
    back false true true = refl
    back false true false = refl
    back false false true = refl
    back false false false = refl

pub lawful_float : Lawful float
lawful_float =
    lawful_one_word bits (of_bits binary32) (λ n. true) Single (λ n. Unit {0})
    (record {
      small = λ x i. to_bits-lt binary32 x i;
      again = λ x i. of_bits-to_bits binary32 x i;
      tidy = λ x i. tt;
      within = λ n t. of_bits-fits binary32 n;
      plain = λ n t. tt;
      exact = λ n i c. tt;
    })

-- ---- two words

long_back : (n : ℕ) → n < 2 ^ 64 → low n + high n * 4294967296 ≡ n
long_back n h =
    let k : n / 4294967296 < 4294967296 = omega arith in
    ap (λ (x : ℕ). low n + x * 4294967296) (mod-eq_of_lt k) ∙ mod-add-div' n 4294967296

pub lawful_u64_to : (limit : ℕ) → limit < 2 ^ 64 → Lawful (u64_to limit)
lawful_u64_to limit h =
    record {
      long = λ n. refl;
      words = λ n i. (mod-lt n (lit< tt), (mod-lt (n / 4294967296) (lit< tt), tt));
      back = λ n i w at s.
          ap₂ (λ (x y : ℕ). x + y * 4294967296) (stands_at w at (low n) (high n ∷ []) s) (stands_at w (at + 1) (high n) [] (stands_rest w at 1 (low n ∷ []) (high n ∷ []) refl s))
          ∙ long_back n (omega arith);
      tidy = λ n i w at s. tt;
      within = λ w at t. leb→le (get_or w at 0 + get_or w (at + 1) 0 * 4294967296) limit t;
      plain = λ w at t. tt;
      exact = λ w at i c. le→leb (get_or w at 0 + get_or w (at + 1) 0 * 4294967296) limit i;
      beside = λ v a w b s. both v a w b s;
      untouched = λ v a w b s. ap (λ (n : ℕ). leb n limit) (both v a w b s);
      reads = λ w at n e. e;
      spells = λ w at n e. two w at (low n) (high n) e.0 e.1;
    }
  where
    both : (v : List ℕ) (a : ℕ) (w : List ℕ) (b : ℕ) → ((i : ℕ) → i < 2 → get_or v (a + i) 0 ≡ get_or w (b + i) 0)
        → get_or v a 0 + get_or v (a + 1) 0 * 4294967296 ≡ get_or w b 0 + get_or w (b + 1) 0 * 4294967296
    both v a w b s = ap₂ (λ (x y : ℕ). x + y * 4294967296) (same_at v a w b 1 s) (s 1 (lit< tt))

    two : (w : List ℕ) (at m n : ℕ) → get_or w at 0 ≡ m → get_or w (at + 1) 0 ≡ n → Stands w at (m ∷ n ∷ [])
    two w at m n p q zero l = rw add-zero p
    two w at m n p q (suc zero) l = q
    two w at m n p q (suc (suc i)) l = absurd (omega arith)
