-- A number plus 2 ^ 20, modulo 2 ^ 64, is at most 2 ^ 21 exactly where the signed number lies within ±2 ^ 20, and then it is that number plus 2 ^ 20.
-- Assumes nothing.
use Rattle.std.proofs.Common.{◌≡◌, ℕ, suc, ◌+◌, ◌-◌, ◌*◌, ◌%◌, ◌^◌, ◌<◌, Bool, true, false, ◌&&◌, ltb, leb, List, ℤ, pos, negsuc, sym, refl, ap, ◌∙◌, ap₂, arith, w64, to_z, ltb-false, ltb-true, le-ltb, lt-ltb, le-leb, leb-false, leb-true}
use lib.IntN.{sub_ℕ}
use borrow.Author.Tests.{lt-leb}
use mir.ValLaws.{to_z_pos, to_z-neg}
use Rattle.words.specs.Words.{Bytes, long, signed_at}
use Rattle.words.proofs.Small.{number_small}
use Rattle.fields.specs.Block.{within, block_of, block_in_range}
use Rattle.fields.specs.Raised.{raised, raised_of}

-- what holds of the signed number z whose bits plus 2 ^ 20 are s
record Shift (s : ℕ) (z : ℤ) : Type 0 where
  range : leb s 2097152 ≡ within z
  value : within z ≡ true → z ≡ sub_ℕ s 1048576

not_negative : (n : ℕ) → n < 2 ^ 63 → Shift ((n + 1048576) % 2 ^ 64) (pos n)
not_negative n h =
    let s : (n + 1048576) % 2 ^ 64 ≡ n + 1048576 = omega arith in
    rw s
    (record {
      range = small (leb n 1048576) refl;
      value = λ e. simp (le-ltb (n + 1048576) 1048576 (omega arith)) (ap pos (let q : n ≡ n + 1048576 - 1048576 = omega arith in q));
    })
  where
    small : (b : Bool) → leb n 1048576 ≡ b → leb (n + 1048576) 2097152 ≡ leb n 1048576
    small true e = let l = leb-true n 1048576 e in le-leb (n + 1048576) 2097152 (omega arith) ∙ sym e
    small false e = let l = leb-false n 1048576 e in lt-leb (n + 1048576) 2097152 (omega arith) ∙ sym e

-- the bits of -(n + 1)
negative : (n : ℕ) → n < 2 ^ 63 → Shift ((2 ^ 64 - suc n + 1048576) % 2 ^ 64) (negsuc n)
negative n h = by (leb n 1048575) refl
  where
    by : (b : Bool) → leb n 1048575 ≡ b → Shift ((2 ^ 64 - suc n + 1048576) % 2 ^ 64) (negsuc n)
    by true e =
        let l = leb-true n 1048575 e in
        let s : (2 ^ 64 - suc n + 1048576) % 2 ^ 64 ≡ 1048575 - n = omega arith in
        rw s
        (record {
          range = le-leb (1048575 - n) 2097152 (omega arith) ∙ simp e;
          value = λ t. simp (lt-ltb (1048575 - n) 1048576 (omega arith)) (ap negsuc (let q : n ≡ 1048576 - suc (1048575 - n) = omega arith in q));
        })
    by false e =
        let l = leb-false n 1048575 e in
        let s : (2 ^ 64 - suc n + 1048576) % 2 ^ 64 ≡ 2 ^ 64 - suc n + 1048576 = omega arith in
        rw s
        (record {
          range = lt-leb (2 ^ 64 - suc n + 1048576) 2097152 (omega arith) ∙ simp e;
          value = λ t. absurd (let f : false ≡ true = simp e at t in let z : ◌≡◌ {A = ℕ} 0 1 = cc in omega arith);
        })

shift : (n : ℕ) → n < 2 ^ 64 → Shift ((n + 1048576) % 2 ^ 64) (to_z w64 n)
shift n h = by (ltb n (2 ^ 63)) refl
  where
    by : (b : Bool) → ltb n (2 ^ 63) ≡ b → Shift ((n + 1048576) % 2 ^ 64) (to_z w64 n)
    by true e = rw (to_z_pos w64 n (ltb-true n (2 ^ 63) e)) (not_negative n (ltb-true n (2 ^ 63) e))
    by false e =
        let l = ltb-false n (2 ^ 63) e in
        let q : 2 ^ 64 - suc (2 ^ 64 - 1 - n) ≡ n = omega arith in
        let z : to_z w64 n ≡ negsuc (2 ^ 64 - 1 - n) = ap (to_z w64) (sym q) ∙ to_z-neg w64 (2 ^ 64 - 1 - n) (omega arith) in
        rw z (rw q at (negative (2 ^ 64 - 1 - n) (omega arith)))

module _ (m : List ℕ) (bytes : Bytes m) where
  at_place : (at : ℕ) → Shift (raised m at) (signed_at m at)
  at_place at = shift (long m at) (number_small m at 8 bytes)

  pub raised_is : (at : ℕ) → within (signed_at m at) ≡ true → signed_at m at ≡ sub_ℕ (raised m at) 1048576
  raised_is at = (at_place at).value

  -- refusal 6 of a block, over the raised numbers
  pub raised_within : (r : ℕ) → (leb (raised_of m r).offset 2097152 && leb (raised_of m r).ramp 2097152) ≡ block_in_range (block_of m r)
  raised_within r = ap₂ (λ (a b : Bool). a && b) (at_place (40 * r + 8)).range (at_place (40 * r + 16)).range
