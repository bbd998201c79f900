-- Ranges and depth factors by bits. Assumes nothing.
use Rattle.std.proofs.Common.{◌≡◌, ℕ, ◌^◌, ◌<◌, Bool, true, false, cond, not, ◌||◌, ◌&&◌, ◌+◌, ◌*◌, eqb, ltb, List, pos, negsuc, sym, refl, ap, ◌∙◌, lit<}
use lib.Ieee.{Float, fin, binary32, fits, eq, of_bits, to_bits}
use Rattle.std.specs.Prelude.{Some, None}
use Rattle.words.specs.Words.{word, float_at}
use Rattle.ieee.specs.Units.{One, mag}
use Rattle.ieee.specs.Numbers.{1·0, 8·0}
use Rattle.ieee.proofs.Theorems.{bits_same, one_bits}
use Rattle.vectors.specs.Head.{has}
use Rattle.fields.specs.RecordBytes.{byte}
use Rattle.fields.specs.Object.{depth_code, maybe_of, from_zero_to, absent_or, object_of, object_in_range}

pub eight_bits : of_bits binary32 0x41000000 ≡ 8·0
unfolding of_bits
eight_bits = refl

pub float_bits : (m : List ℕ) (at : ℕ) → of_bits binary32 (word m at) ≡ float_at m at
unfolding float_at
float_bits m at = refl

-- absent, or from 0 to the float y of the bits `most`
pub range_by_bits : (most : ℕ) (y : Float) → of_bits binary32 most ≡ y → (m : List ℕ) (flags bit at : ℕ)
    → (not (has flags bit) || from_zero_to (of_bits binary32 most) (of_bits binary32 (word m at))) ≡ absent_or y (maybe_of m flags bit at)
unfolding maybe_of float_at
range_by_bits most y e m flags bit at =
    let x = of_bits binary32 (word m at) in
    ap (λ (z : Float). not (has flags bit) || from_zero_to z x) e ∙ present (has flags bit) y x
  where
    present : (h : Bool) (most x : Float) → (not h || from_zero_to most x) ≡ absent_or most (cond h (Some x) None)
    present true most x = refl
    present false most x = refl

-- the object of record r is in its ranges, by its words
pub object_by_bits : (m : List ℕ) (r : ℕ) →
    let up_to : ℕ → ℕ → Bool = λ most at. from_zero_to (of_bits binary32 most) (of_bits binary32 (word m at)) in
    ((not (has (byte m r 2) 4) || up_to 0x41000000 (40 * r + 4)) && (not (has (byte m r 2) 32) || up_to 0x3f800000 (40 * r + 24))
    && ltb (depth_code (of_bits binary32 (word m (40 * r + 32)))) 4 && up_to 0x3f800000 (40 * r + 36))
    ≡ object_in_range (object_of m r)
object_by_bits m r =
    let flags = byte m r 2 in
    λ i.
    range_by_bits 0x41000000 8·0 eight_bits m flags 4 (40 * r + 4) i
    && range_by_bits 0x3f800000 1·0 one_bits m flags 32 (40 * r + 24) i
    && ltb (depth_code (float_bits m (40 * r + 32) i)) 4
    && from_zero_to (one_bits i) (float_bits m (40 * r + 36) i)

-- each of the four factors is one pattern
module _ (w : ℕ) (less : w < 2 ^ 32) where
  quarter : eqb w 0x3e800000 ≡ eq (of_bits binary32 w) (fin false 1 (negsuc 1))
  unfolding to_bits fits mag One
  quarter = bits_same (fin false 1 (negsuc 1)) (record { fine = tt; fit = tt }) (lit< tt) w less

  half : eqb w 0x3f000000 ≡ eq (of_bits binary32 w) (fin false 1 (negsuc 0))
  unfolding to_bits fits mag One
  half = bits_same (fin false 1 (negsuc 0)) (record { fine = tt; fit = tt }) (lit< tt) w less

  one : eqb w 0x3f800000 ≡ eq (of_bits binary32 w) (fin false 1 (pos 0))
  unfolding to_bits fits mag One
  one = bits_same (fin false 1 (pos 0)) (record { fine = tt; fit = tt }) (lit< tt) w less

  two : eqb w 0x40000000 ≡ eq (of_bits binary32 w) (fin false 1 (pos 1))
  unfolding to_bits fits mag One
  two = bits_same (fin false 1 (pos 1)) (record { fine = tt; fit = tt }) (lit< tt) w less

  pub depth_by_bits : cond (eqb w 0x3e800000) 0 (cond (eqb w 0x3f000000) 1 (cond (eqb w 0x3f800000) 2 (cond (eqb w 0x40000000) 3 4))) ≡ depth_code (of_bits binary32 w)
  unfolding depth_code
  depth_by_bits = rw (quarter, half, one, two)

  -- the factor of the bits `listed`
  pub depth_listed : (listed code : ℕ) → w ≡ listed
      → cond (eqb listed 0x3e800000) 0 (cond (eqb listed 0x3f000000) 1 (cond (eqb listed 0x3f800000) 2 (cond (eqb listed 0x40000000) 3 4))) ≡ code
      → code ≡ depth_code (of_bits binary32 w)
  depth_listed listed code e f =
      sym f
      ∙ ap (λ (n : ℕ). cond (eqb n 0x3e800000) 0 (cond (eqb n 0x3f000000) 1 (cond (eqb n 0x3f800000) 2 (cond (eqb n 0x40000000) 3 4)))) (sym e)
      ∙ depth_by_bits
