-- Odd numbers: their products and powers are odd. Assumes nothing.
use mathlib.Core.Path.{◌≡◌, sym, ap, ◌∙◌, subst}
use mathlib.Core.Logic.{◌⊎◌, inl, inr}
use Prim.Native.Nat.{ℕ, zero, suc, ◌+◌, ◌*◌, ◌/◌, ◌%◌, ◌^◌}
use native.Mathlib.Nat.{pow-suc, pow-zero, eq-zero-or-pos}
use native.Mathlib.Omega.{arith}

pub record Odd (x : ℕ) : Type 0 where
  pub half : ℕ
  pub is : x ≡ 2 * half + 1

pub odd_mul : {x y : ℕ} → Odd x → Odd y → Odd (x * y)
odd_mul {x} {y} a b =
    record { half = 2 * (a.half * b.half) + a.half + b.half; is = ap (λ (z : ℕ). z * y) a.is ∙ ap (λ (z : ℕ). (2 * a.half + 1) * z) b.is ∙ (omega arith) }

pub odd_pow : {x : ℕ} → Odd x → (p : ℕ) → Odd (x ^ p)
odd_pow {x} o zero = record { half = 0; is = pow-zero x }
odd_pow {x} o (suc p) = subst Odd (sym (pow-suc x p)) (odd_mul (odd_pow o p) o)

pub parity : (x : ℕ) → (x ≡ x / 2 * 2) ⊎ Odd x
parity x = elim (eq-zero-or-pos (x % 2)) [ inl z ↦ inl (omega arith) | inr p ↦ inr (record { half = x / 2; is = omega arith }) ]
