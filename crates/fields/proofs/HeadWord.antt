-- The first four bytes of an object's record, judged by their word. Assumes nothing.
use Rattle.std.proofs.Common.{◌≡◌, ℕ, ◌+◌, ◌*◌, ◌/◌, ◌%◌, ◌<◌, Bool, true, false, ◌&&◌, eqb, leb, List, get_or, sym, refl, ap, ◌∙◌, ap₂, arith, eqb-true, le-leb, leb-false, leb-true}
use borrow.Author.Tests.{eqb-false, lt-leb}
use Rattle.words.specs.Words.{word}
use Rattle.words.proofs.Numbers.{word_read}
use Rattle.fields.proofs.Zeros.{and_assoc}

-- at most 63 with a zero above it: one test
upper : (c d : ℕ) → c < 256 → leb (c + d * 256) 63 ≡ (leb c 63 && eqb d 0)
upper c d h = by (leb c 63) (eqb d 0) refl refl
  where
    by : (s t : Bool) → leb c 63 ≡ s → eqb d 0 ≡ t → leb (c + d * 256) 63 ≡ (s && t)
    by true true e f = let x = leb-true c 63 e in let y = eqb-true d 0 f in le-leb (c + d * 256) 63 (omega arith)
    by true false e f = lt-leb (c + d * 256) 63 (let y = eqb-false d 0 f in omega arith)
    by false t e f = lt-leb (c + d * 256) 63 (let x = leb-false c 63 e in omega arith)

module _ (a b c d : ℕ) (la : a < 256) (lb : b < 256) (lc : c < 256) where
  abbrev whole : ℕ
  whole = a + b * 256 + c * 65536 + d * 16777216

  lowest : whole % 256 ≡ a
  lowest = omega arith

  second : whole / 256 % 256 ≡ b
  second = omega arith

  above : whole / 65536 ≡ c + d * 256
  above = omega arith

  tests : (eqb (whole % 256) 4 && leb (whole / 256 % 256) 2 && leb (whole / 65536) 63) ≡ (eqb a 4 && leb b 2 && leb c 63 && eqb d 0)
  tests =
      ap₂ ◌&&◌ (ap₂ (λ (x y : ℕ). eqb x 4 && leb y 2) lowest second) (ap (λ (x : ℕ). leb x 63) above ∙ upper c d lc)
      ∙ and_assoc (eqb a 4 && leb b 2) (leb c 63) (eqb d 0)

pub head_word_is : (m : List ℕ) (at : ℕ) → get_or m at 0 < 256 → get_or m (at + 1) 0 < 256 → get_or m (at + 2) 0 < 256
    → (eqb (word m at % 256) 4 && leb (word m at / 256 % 256) 2 && leb (word m at / 65536) 63)
    ≡ (eqb (get_or m at 0) 4 && leb (get_or m (at + 1) 0) 2 && leb (get_or m (at + 2) 0) 63 && eqb (get_or m (at + 3) 0) 0)
head_word_is m at a b c =
    ap (λ (w : ℕ). eqb (w % 256) 4 && leb (w / 256 % 256) 2 && leb (w / 65536) 63) (sym (word_read m at))
    ∙ tests (get_or m at 0) (get_or m (at + 1) 0) (get_or m (at + 2) 0) (get_or m (at + 3) 0) a b c
