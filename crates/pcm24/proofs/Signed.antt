-- The 24 bits of a code as a signed number: at the top of a word of 32 bits, and shifted down again. Assumes nothing.
use mathlib.Core.Path.{◌≡◌, sym, ap, ◌∙◌}
use mathlib.Core.Logic.{inl, inr}
use Prim.Native.Nat.{ℕ, suc, ◌-◌, ◌*◌, ◌/◌, ◌^◌, ◌<◌}
use native.Mathlib.Nat.{mul-div_cancel}
use native.Mathlib.Omega.{arith}
use borrow.Author.Tests.{lt-ltb, le-ltb}
use lib.Dec.{lit<}
use lib.IntN.{pos, negsuc}
use lib.Signed.{shr_z}
use Rattle.std.specs.Int.{w32}
use Rattle.std.proofs.Common.{to_z}
use Rattle.std.proofs.Math.Facts.{to_z_pos, to_z-neg}
use Rattle.ieee.proofs.Theorems.{le_or_lt}
use Rattle.pcm24.specs.Codes.{whole_of}

pub shifted : (n : ℕ) → n < 16777216 → shr_z (to_z w32 (n * 256)) 256 ≡ whole_of n
shifted n h = elim (le_or_lt 8388608 n) [
  | inr l ↦
      let e : to_z w32 (n * 256) ≡ pos (n * 256) = to_z_pos w32 (omega arith) in
      rw (e, lt-ltb n 8388608 l) (ap pos (mul-div_cancel n (lit< tt)))
  | inl l ↦
      let k : ℕ = 4294967295 - n * 256 in
      let d : 2 ^ 32 - suc k ≡ n * 256 = omega arith in
      let e : to_z w32 (n * 256) ≡ negsuc k = ap (to_z w32) (sym d) ∙ to_z-neg w32 k (omega arith) in
      let q : k / 256 ≡ 16777215 - n = omega arith in
      let m : 16777216 - n ≡ suc (16777215 - n) = omega arith in
      rw (e, le-ltb n 8388608 l, m) (ap negsuc q)
]
