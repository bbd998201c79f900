-- Four numbers of one width that are stored at four places: each is read back, and what lies apart from all four stays. Assumes nothing.
use mathlib.Core.Path.{◌≡◌, ◌∙◌}
use mathlib.Core.Logic.{inl, inr}
use mathlib.Core.List.{List}
use Prim.Native.Nat.{ℕ, ◌+◌, ◌^◌, ◌≤◌, ◌<◌}
use native.Mathlib.Omega.{arith}
use lib.ListN.{length, get_or}
use Rattle.words.specs.Words.{Bytes, number, with_number}
use Rattle.words.proofs.Theorems.{reads_back, reads_before, reads_past, number_keeps, number_bytes, length_kept}
use Rattle.ieee.proofs.Theorems.{le_or_lt}

-- n bytes from q on lie apart from w bytes from p on
pub data Apart (q n w p : ℕ) : Type 0 where
  below : q + n ≤ p → Apart q n w p
  above : p + w ≤ q → Apart q n w p

pub apart : (q n w p : ℕ) → (p < q + n → p + w ≤ q) → Apart q n w p
apart q n w p f = elim (le_or_lt (q + n) p) [ inl l ↦ below l | inr l ↦ above (f l) ]

stays : (w : ℕ) (t : List ℕ) (p v q n : ℕ) → Apart q n w p → number (with_number t p w v) q n ≡ number t q n
stays w t p v q n (below l) = reads_before (number_keeps t p w v) q n l
stays w t p v q n (above l) = reads_past (number_keeps t p w v) q n l

byte_stays : (w : ℕ) (t : List ℕ) (p v q : ℕ) → Apart q 1 w p → get_or (with_number t p w v) q 0 ≡ get_or t q 0
byte_stays w t p v q (below l) = (number_keeps t p w v).before q (omega arith)
byte_stays w t p v q (above l) = (number_keeps t p w v).past q l

module _ (w : ℕ) (t : List ℕ) (p q r z : ℕ) (a b c d : ℕ) where
  abbrev one : List ℕ
  one = with_number t p w a

  abbrev two : List ℕ
  two = with_number one q w b

  abbrev three : List ℕ
  three = with_number two r w c

  abbrev pub four : List ℕ
  four = with_number three z w d

  l1 : length one ≡ length t
  l1 = length_kept t p w a

  l2 : length two ≡ length t
  l2 = length_kept one q w b ∙ l1

  l3 : length three ≡ length t
  l3 = length_kept two r w c ∙ l2

  pub four_length : length four ≡ length t
  four_length = length_kept three z w d ∙ l3

  pub four_stay : (k n : ℕ) → Apart k n w p → Apart k n w q → Apart k n w r → Apart k n w z → number four k n ≡ number t k n
  four_stay k n e f g h = stays w three z d k n h ∙ stays w two r c k n g ∙ stays w one q b k n f ∙ stays w t p a k n e

  pub four_bytes_stay : (k : ℕ) → Apart k 1 w p → Apart k 1 w q → Apart k 1 w r → Apart k 1 w z → get_or four k 0 ≡ get_or t k 0
  four_bytes_stay k e f g h = byte_stays w three z d k h ∙ byte_stays w two r c k g ∙ byte_stays w one q b k f ∙ byte_stays w t p a k e

  pub four_bytes : Bytes t → Bytes four
  four_bytes k = number_bytes three z w d (number_bytes two r w c (number_bytes one q w b (number_bytes t p w a k)))

  module _ (pq : p + w ≤ q) (qr : q + w ≤ r) (rz : r + w ≤ z) (inside : z + w ≤ length t) where
    pub first_read : a < 256 ^ w → number four p w ≡ a
    first_read s = stays w three z d p w (below (omega arith)) ∙ stays w two r c p w (below (omega arith)) ∙ stays w one q b p w (below (omega arith)) ∙ reads_back t p w a (omega arith) s

    pub second_read : b < 256 ^ w → number four q w ≡ b
    second_read s = stays w three z d q w (below (omega arith)) ∙ stays w two r c q w (below (omega arith)) ∙ reads_back one q w b (omega (arith, l1)) s

    pub third_read : c < 256 ^ w → number four r w ≡ c
    third_read s = stays w three z d r w (below (omega arith)) ∙ reads_back two r w c (omega (arith, l2)) s

    pub fourth_read : d < 256 ^ w → number four z w ≡ d
    fourth_read s = reads_back three z w d (omega (arith, l3)) s
