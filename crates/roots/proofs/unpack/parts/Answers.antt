use mathlib.Core.Path.{◌≡◌, sym, ap, subst, ◌∙◌}
use mathlib.Core.Bool.{Bool, cond}
use Prim.Native.Nat.{ℕ, ◌+◌, ◌-◌, ◌*◌, ◌/◌, ◌%◌, ◌^◌, ◌≤◌, ◌<◌}
use native.Mathlib.Nat.{mul_assoc}
use native.Mathlib.Omega.{arith}
use borrow.Author.Tests.{le-ltb}
use lib.Pow.{pow-add}
use Rattle.ieee.specs.FloatBits.{units_of}
use Rattle.roots.specs.Whole.{Normal}
use Rattle.roots.proofs.unpack.parts.Goals as goal

high_units : (b : ℕ) → 8388608 ≤ b → (8388608 + b % 8388608) * 2 ^ (b / 8388608 - 1) ≡ units_of b
high_units b h = sym (ap (λ (t : Bool). cond t b ((8388608 + b % 8388608) * 2 ^ (b / 8388608 - 1))) (le-ltb b 8388608 h))

normal : (b : ℕ) → 8388608 ≤ b → b < 0x7f80_0000 → Normal (units_of b) (8388608 + b % 8388608) (b / 8388608 + 22)
normal b l h =
    let m = 8388608 + b % 8388608 in
    let f = b / 8388608 in
    let x : f - 1 + 23 ≡ f + 22 = omega arith in
    record {
      low = omega arith;
      high = omega arith;
      few = omega arith;
      is = ap (λ (y : ℕ). y * 8388608) (sym (high_units b l)) ∙ mul_assoc m (2 ^ (f - 1)) (2 ^ 23) ∙ ap (λ (y : ℕ). m * y) (sym (pow-add 2 (f - 1) 23) ∙ ap (λ (y : ℕ). 2 ^ y) x);
    }

pub returns : goal.returns
returns c =
    let b = c.from-b.result in
    subst (λ (u : ℕ). Normal (units_of u) (8388608 + b % 8388608) (b / 8388608 + 22)) c.from-b.ensures (normal b (omega arith) (omega arith))
