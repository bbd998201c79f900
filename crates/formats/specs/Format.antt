-- Formats: how a value stands in a run of words, which words are in range, and what is in range. Document 01, "What a call receives": "the renderer's state is a block of
-- fixed length, its layout and each field's range written in docs/, its floats of any bits". `Plain`, `Reads` and `Spells` serve the proofs alone. Assumes nothing.
use Rattle.std.specs.Prelude.{ℕ, zero, suc, ◌+◌, ◌*◌, ◌/◌, ◌%◌, ◌≤◌, ◌<◌, ◌≡◌, Bool, true, ◌&&◌, List, [], ◌∷◌, ◌++◌, T, eqb, leb, ltb, length, get_or, replicate, Float}
use Rattle.std.specs.Float.{binary32}
use Rattle.std.specs.Float.Ieee.{of_bits}
use Rattle.ieee.specs.Bounds.{All}
use Rattle.formats.specs.NumberWords.{low, high, long_of, bit, Single, bits}

pub record Format (A : Type 0) : Type 1 where
  -- how many words
  pub width : ℕ
  -- the words of a value
  pub put : A → List ℕ
  -- the value of the words from a place on
  pub get : List ℕ → ℕ → A
  -- whether the words from a place on are in range
  pub test : List ℕ → ℕ → Bool
  -- the values in range
  pub In : A → Type 0
  -- the words tell nothing beside the value: a flag's word is 0 or 1, a code's below 256
  pub Plain : List ℕ → ℕ → Type 0
  -- x is what the words from a place on say, part by part
  pub Reads : List ℕ → ℕ → A → Type 0
  -- the words from a place on are those of x, part by part
  pub Spells : List ℕ → ℕ → A → Type 0

-- ---- words in place

-- these words stand in w from a place on
abbrev pub Stands : List ℕ → ℕ → List ℕ → Type 0
Stands w at ws = (i : ℕ) → i < length ws → get_or w (at + i) 0 ≡ get_or ws i 0

-- ---- one word, or two

-- one word: the word of a value, the value of a word, which words and which values are in range, which words are plain
abbrev pub one_word : {A : Type 0} → (A → ℕ) → (ℕ → A) → (ℕ → Bool) → (A → Type 0) → (ℕ → Type 0) → Format A
one_word put of p In Plain =
    record {
      width = 1;
      put = λ x. put x ∷ [];
      get = λ w at. of (get_or w at 0);
      test = λ w at. p (get_or w at 0);
      In = In;
      Plain = λ w at. Plain (get_or w at 0);
      Reads = λ w at x. x ≡ of (get_or w at 0);
      Spells = λ w at x. get_or w at 0 ≡ put x;
    }

-- a u32 for which a test holds; from 0 to a limit; below a bound
abbrev pub u32_where : (ℕ → Bool) → Format ℕ
u32_where p = one_word (λ n. n) (λ n. n) p (λ n. T (p n)) (λ n. Unit {0})

abbrev pub u32_to : ℕ → Format ℕ
u32_to limit = one_word (λ n. n) (λ n. n) (λ n. leb n limit) (λ n. n ≤ limit) (λ n. Unit {0})

abbrev pub u32_below : ℕ → Format ℕ
u32_below bound = one_word (λ n. n) (λ n. n) (λ n. ltb n bound) (λ n. n < bound) (λ n. Unit {0})

-- a u32 of any bits
abbrev pub u32_any : Format ℕ
u32_any = u32_to 4294967295

-- a usize from 0 to a limit
abbrev pub usize_to : ℕ → Format ℕ
usize_to limit = one_word low (λ n. n) (λ n. leb n limit) (λ n. n ≤ limit) (λ n. Unit {0})

-- a u8 from 0 to a limit
abbrev pub u8_to : ℕ → Format ℕ
u8_to limit = one_word (λ n. n) (λ n. n % 256) (λ n. leb n limit) (λ n. n ≤ limit) (λ n. n < 256)

-- a bool
abbrev pub flag : Format Bool
flag = one_word bit (λ n. eqb n 1) (λ n. leb n 1) (λ b. Unit {0}) (λ n. n ≤ 1)

-- three bools in one word: 1 of it, 2 of it and 4 of it
abbrev pub three_bits : Bool × (Bool × Bool) → ℕ
three_bits x = bit x.0 + (2 * bit x.1.0 + 4 * bit x.1.1)

abbrev pub three_of : ℕ → Bool × (Bool × Bool)
three_of n = (eqb (n % 2) 1, (eqb (n / 2 % 2) 1, eqb (n / 4 % 2) 1))

abbrev pub three_flags : Format (Bool × (Bool × Bool))
three_flags = one_word three_bits three_of (λ n. leb n 7) (λ x. Unit {0}) (λ n. n ≤ 7)

-- an f32 of any bits; every NaN is read as one
abbrev pub float : Format Float
float = one_word bits (of_bits binary32) (λ n. true) Single (λ n. Unit {0})

-- a u64 from 0 to a limit, in two words
abbrev pub u64_to : ℕ → Format ℕ
u64_to limit =
    record {
      width = 2;
      put = λ n. low n ∷ high n ∷ [];
      get = λ w at. long_of w at;
      test = λ w at. leb (long_of w at) limit;
      In = λ n. n ≤ limit;
      Plain = λ w at. Unit {0};
      Reads = λ w at n. n ≡ long_of w at;
      Spells = λ w at n. (get_or w at 0 ≡ low n) × (get_or w (at + 1) 0 ≡ high n);
    }

-- ---- two together, and n

infixr 30 ◌⊗◌
abbrev pub ◌⊗◌ : {A B : Type 0} → Format A → Format B → Format (A × B)
F ⊗ G =
    record {
      width = F.width + G.width;
      put = λ x. F.put x.0 ++ G.put x.1;
      get = λ w at. (F.get w at, G.get w (at + F.width));
      test = λ w at. F.test w at && G.test w (at + F.width);
      In = λ x. F.In x.0 × G.In x.1;
      Plain = λ w at. F.Plain w at × G.Plain w (at + F.width);
      Reads = λ w at x. F.Reads w at x.0 × G.Reads w (at + F.width) x.1;
      Spells = λ w at x. F.Spells w at x.0 × G.Spells w (at + F.width) x.1;
    }

-- the words of the first n of a list; zeros where it is too short
unfoldable pub puts : {A : Type 0} → (A → List ℕ) → ℕ → ℕ → List A → List ℕ
puts put k zero xs = []
puts put k (suc n) [] = replicate k 0 ++ puts put k n []
puts put k (suc n) (x ∷ xs) = put x ++ puts put k n xs

-- n values, one each k words
unfoldable pub gets : {A : Type 0} → (ℕ → A) → ℕ → ℕ → ℕ → List A
gets get k zero at = []
gets get k (suc n) at = get at ∷ gets get k n (at + k)

-- a test at n places, one each k words
unfoldable pub all_at : (ℕ → Bool) → ℕ → ℕ → ℕ → Bool
all_at p k zero at = true
all_at p k (suc n) at = p at && all_at p k n (at + k)

unfoldable pub EachAt : (ℕ → Type 0) → ℕ → ℕ → ℕ → Type 0
EachAt P k zero at = Unit {0}
EachAt P k (suc n) at = P at × EachAt P k n (at + k)

-- n values, each in range
pub record Full {A : Type 0} (P : A → Type 0) (n : ℕ) (xs : List A) : Type 0 where
  pub count : length xs ≡ n
  pub each : All P xs

abbrev pub array : {A : Type 0} → ℕ → Format A → Format (List A)
array n F =
    record {
      width = n * F.width;
      put = puts F.put F.width n;
      get = λ w at. gets (F.get w) F.width n at;
      test = λ w at. all_at (F.test w) F.width n at;
      In = Full F.In n;
      Plain = λ w at. EachAt (F.Plain w) F.width n at;
      Reads = λ w at xs. xs ≡ gets (F.get w) F.width n at;
      Spells = λ w at xs. Stands w at (puts F.put F.width n xs);
    }

-- ---- the same words as another type, under another range, with a test more

-- a struct as nested pairs: its fields in order, and the struct of them
abbrev pub struct : {A B : Type 0} → (A → B) → (B → A) → Format B → Format A
struct to from F =
    record {
      width = F.width;
      put = λ x. F.put (to x);
      get = λ w at. from (F.get w at);
      test = F.test;
      In = λ x. F.In (to x);
      Plain = F.Plain;
      Reads = λ w at x. F.Reads w at (to x);
      Spells = λ w at x. F.Spells w at (to x);
    }

-- the same range in another form
abbrev pub ranged : {A : Type 0} → (A → Type 0) → Format A → Format A
ranged P F =
    record { width = F.width; put = F.put; get = F.get; test = F.test; In = P; Plain = F.Plain; Reads = F.Reads; Spells = F.Spells }

-- a test on the value
abbrev pub such : {A : Type 0} → (A → Bool) → Format A → Format A
such p F =
    record {
      width = F.width;
      put = F.put;
      get = F.get;
      test = λ w at. F.test w at && p (F.get w at);
      In = λ x. F.In x × T (p x);
      Plain = F.Plain;
      Reads = F.Reads;
      Spells = F.Spells;
    }
