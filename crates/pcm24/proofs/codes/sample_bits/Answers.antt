-- `sample_bits`: the shift gives the whole number. Assumes nothing.
use mathlib.Core.Path.{◌≡◌, sym, ap, ap₂, subst, ◌∙◌}
use mathlib.Core.Bool.{not}
use Prim.Native.Nat.{ℕ, ◌*◌, ◌%◌, ◌^◌, ◌<◌}
use native.Mathlib.Nat.{lt_of_le_of_lt}
use native.Mathlib.Omega.{arith}
use lib.IntN.{ℤ}
use lib.Signed.{mag, shr_z, mag_shr}
use lib.Dec.{T}
use lib.Ieee.{Float, binary32, is_nan, of_bits, to_bits, of_int, div}
use Rattle.std.specs.Int.{w32}
use Rattle.std.proofs.Common.{to_z, of_z}
use Rattle.std.proofs.Math.Facts.{to_z-of_z}
use Rattle.pcm24.specs.Codes.{whole_of, sample_24}
use Rattle.pcm24.proofs.Nearest.{scale_is}
use Rattle.pcm24.proofs.Signed.{shifted}
use Rattle.pcm24.proofs.Near.{sample_number}
use Rattle.pcm24.proofs.codes.sample_bits.Goals as goal

-- the float that the code works out
sample_is : (z : ℤ) (n : ℕ) → mag z < 2 ^ 31 → z ≡ to_z w32 (n * 256 % 4294967296) → n < 16777216
    → div binary32 (of_int binary32 (to_z w32 (of_z w32 (shr_z (to_z w32 (of_z w32 z)) 256)))) (of_bits binary32 1258291200) ≡ sample_24 n
sample_is z n few e h =
    let k : n * 256 % 4294967296 ≡ n * 256 = omega arith in
    let is : z ≡ to_z w32 (n * 256) = e ∙ ap (to_z w32) k in
    let kept : to_z w32 (of_z w32 z) ≡ z = to_z-of_z {w = w32} (record { sfits = few }) in
    let whole : shr_z (to_z w32 (of_z w32 z)) 256 ≡ whole_of n = ap (λ (y : ℤ). shr_z y 256) (kept ∙ is) ∙ shifted n h in
    let back : to_z w32 (of_z w32 (shr_z (to_z w32 (of_z w32 z)) 256)) ≡ shr_z (to_z w32 (of_z w32 z)) 256 =
    to_z-of_z {w = w32} (record { sfits = lt_of_le_of_lt (mag_shr (to_z w32 (of_z w32 z)) 256) (rw kept few) }) in
    ap₂ (λ (y : ℤ) (k : Float). div binary32 (of_int binary32 y) k) (back ∙ whole) scale_is

pub float_to_bits-result : goal.float_to_bits-result
float_to_bits-result c = subst (λ (x : Float). T (not (is_nan x))) (sym (sample_is c.cast_signed.result c.args.code c.cast_signed.type_inv c.cast_signed.ensures c.requires)) (sample_number c.args.code c.requires)

pub returns : goal.returns
returns c = ap (to_bits binary32) (sample_is c.cast_signed.result c.args.code c.cast_signed.type_inv c.cast_signed.ensures c.requires)
