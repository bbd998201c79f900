-- What rounding adds to a step, b2 x2 + b1 x1 + b0 x - a1 y1 - a2 y2 summed from the left, each of its nine operations rounded: with |x|, |x1|, |x2| ≤ X and
-- |y1|, |y2| ≤ 2 Y its residue is at most 754² M (1.0055 X + 0.0658 Y) / N². The samples' part goes with X, the rounding of past outputs with Y. Values are whole numbers of
-- units; a1 = -A / 2^24, a2 = α / 2^24, b0, b1, b2 in steps of 2^-48. Assumes nothing.
use mathlib.Core.Path.{◌≡◌}
use mathlib.Core.List.{[], ◌∷◌}
use Prim.Native.Nat.{ℕ, ◌+◌, ◌*◌, ◌≤◌}
use native.Mathlib.Nat.{le_trans, mul-le-mul_left, mul-le-mul_right, le_refl, add-le-add}
use native.Mathlib.Omega.{arith}
use lib.IntN.{ℤ, pos, neg_ℤ, nat_abs, ◌+ℤ◌, ◌-ℤ◌, ◌*ℤ◌}
use Rattle.ieee.proofs.Ring.{var, ◌⊕◌, ◌⊖◌, ◌⊗◌, neg, ring}
use Rattle.ieee.proofs.NotNegative.{abs_add, abs_minus, abs_from, abs_mul, abs_neg_mul}
use Rattle.ieee.proofs.Near.{Near, Sum}
use Rattle.lowpass.proofs.Boxed.{residue}

-- what drives a step at most, times N², with |x|, |x1|, |x2| ≤ X and |y1|, |y2| ≤ 2 Y
abbrev pub force : (X Y : ℕ) → ℕ
force X Y = 9590000000000 * X + 627000000000 * Y

-- the results of the operations: P the products with samples, Q those with past outputs, S the sums
pub record Steps (α A b₀ b₁ b₂ : ℕ) (x₀ x₁ x₂ y₁ y₂ y : ℤ) : Type 0 where
  pub P₀ : ℤ
  pub P₁ : ℤ
  pub P₂ : ℤ
  pub Q₁ : ℤ
  pub Q₂ : ℤ
  pub S₁ : ℤ
  pub S₂ : ℤ
  pub S₃ : ℤ
  pub p₀ : Near P₀ (pos b₀ *ℤ x₀) 281474976710656
  pub p₁ : Near P₁ (pos b₁ *ℤ x₁) 281474976710656
  pub p₂ : Near P₂ (pos b₂ *ℤ x₂) 281474976710656
  pub q₁ : Near Q₁ (neg_ℤ (pos A) *ℤ y₁) 16777216
  pub q₂ : Near Q₂ (pos α *ℤ y₂) 16777216
  pub s₁ : Sum S₁ (P₂ +ℤ P₁)
  pub s₂ : Sum S₂ (S₁ +ℤ P₀)
  pub s₃ : Sum S₃ (S₂ -ℤ Q₁)
  pub s : Sum y (S₃ -ℤ Q₂)

-- ---- one operation
-- the product of a sample, |x| ≤ X, and b in steps of 2^-48
fed : (P x : ℤ) (b X : ℕ) → nat_abs x ≤ X → Near P (pos b *ℤ x) 281474976710656 → 4722366482869645213696 * nat_abs P ≤ 16777217 * (b * X) + 2361183241434822606848
fed P x b X h r =
    let z : ℤ = pos b *ℤ x in
    let cP : ℤ = pos 281474976710656 *ℤ P in
    go (nat_abs z) (b * nat_abs x) (nat_abs cP) (nat_abs P) (nat_abs (cP -ℤ z)) (b * X) (abs_mul b x) (abs_mul 281474976710656 P) (abs_from cP z) (mul-le-mul_left b h) r.near
  where
    go : (z bx cp p e bX : ℕ) → z ≡ bx → cp ≡ 281474976710656 * p → cp ≤ e + z → bx ≤ bX → 16777216 * e ≤ z + 2361183241434822606848 →
        4722366482869645213696 * p ≤ 16777217 * bX + 2361183241434822606848
    go z bx cp p e bX e₁ e₂ e₃ e₄ e₅ = omega arith

-- the product of a past output and a in steps of 2^-24: its error, and its size
back : (q z : ℤ) (Z : ℕ) → nat_abs z ≤ 16777216 * Z → Near q z 16777216 →
    (nat_abs (pos 16777216 *ℤ q -ℤ z) ≤ Z + 8388608) × (16777216 * nat_abs q ≤ 16777217 * Z + 8388608)
back q z Z h r = go (nat_abs z) (nat_abs (pos 16777216 *ℤ q)) (nat_abs q) (nat_abs (pos 16777216 *ℤ q -ℤ z)) (abs_mul 16777216 q) (abs_from (pos 16777216 *ℤ q) z) h r.near
  where
    go : (z cq q e : ℕ) → cq ≡ 16777216 * q → cq ≤ e + z → z ≤ 16777216 * Z → 16777216 * e ≤ z + 140737488355328 → (e ≤ Z + 8388608) × (16777216 * q ≤ 16777217 * Z + 8388608)
    go z cq q e e₁ e₂ e₃ e₄ = omega arith

added : (v a b : ℤ) → Sum v (a +ℤ b) → 16777216 * nat_abs v ≤ 16777217 * (nat_abs a + nat_abs b)
added v a b r = go (nat_abs v) (nat_abs (v -ℤ (a +ℤ b))) (nat_abs (a +ℤ b)) (nat_abs a + nat_abs b) (abs_from v (a +ℤ b)) r.near (abs_add a b)
  where
    go : (v e z p : ℕ) → v ≤ e + z → 16777216 * e ≤ z → z ≤ p → 16777216 * v ≤ 16777217 * p
    go v e z p e₁ e₂ e₃ = omega arith

-- ---- the sizes: two sums of three products, then the residue
sums : (s₁ s₂ p₀ p₁ p₂ : ℕ) → 16777216 * s₁ ≤ 16777217 * (p₂ + p₁) → 16777216 * s₂ ≤ 16777217 * (s₁ + p₀) → 281474976710656 * s₂ ≤ 281475010265089 * (p₀ + p₁ + p₂)
sums s₁ s₂ p₀ p₁ p₂ e₁ e₂ = omega arith

sums' : (s p : ℕ) → 281474976710656 * s ≤ 281475010265089 * p → 16777219 * s ≤ 16777222 * p
sums' s p e = omega arith

back' : (q Z : ℕ) → 16777216 * q ≤ 16777217 * Z + 8388608 → 8388608 ≤ Z → 1048576 * q ≤ 1048577 * Z
back' q Z e h = omega arith

gather : (Y f δ₃ δ₄ s₂ s₃ e₁ e₂ q₁ q₂ : ℕ) → f ≤ 16777216 * δ₄ + 16777216 * δ₃ + 16777216 * s₂ + e₁ + e₂ →
    16777216 * δ₄ ≤ s₃ + q₂ → 16777216 * δ₃ ≤ s₂ + q₁ → s₃ ≤ δ₃ + (s₂ + q₁) → e₁ ≤ 4 * Y + 8388608 → e₂ ≤ 2 * Y + 8388608 →
    1048576 * q₁ ≤ 1048577 * (4 * Y) → 1048576 * q₂ ≤ 1048577 * (2 * Y) → f ≤ 16777219 * s₂ + 17 * Y + 16777216
gather Y f δ₃ δ₄ s₂ s₃ e₁ e₂ q₁ q₂ h₁ h₂ h₃ h₄ h₅ h₆ h₇ h₈ = omega arith

inputs : (Y f s₂ p₀ p₁ p₂ β₀ β₁ β₂ : ℕ) → f ≤ 16777219 * s₂ + 17 * Y + 16777216 → 16777219 * s₂ ≤ 16777222 * (p₀ + p₁ + p₂) →
    4722366482869645213696 * p₀ ≤ 16777217 * β₀ + 2361183241434822606848 → 4722366482869645213696 * p₁ ≤ 16777217 * β₁ + 2361183241434822606848
    → 4722366482869645213696 * p₂ ≤ 16777217 * β₂ + 2361183241434822606848 →
    562949953421312 * f ≤ 33554448 * (β₀ + β₁ + β₂) + 562949953421312 * (17 * Y + 41943081)
inputs Y f s₂ p₀ p₁ p₂ β₀ β₁ β₂ e₀ e₁ e₂ e₃ e₄ = omega arith

-- times n = N²
scaled : (X Y n f β : ℕ) → n ≤ 36864000000 → 8589934592 ≤ Y → n * β ≤ 160800000000000000000 * X →
    562949953421312 * f ≤ 33554448 * β + 562949953421312 * (17 * Y + 41943081) → n * f ≤ force X Y
scaled X Y n f β hn hY hβ e = last (n * f) (n * Y) (first (n * f) (n * β) (n * Y) (spread (mul-le-mul_left n e)) hβ) (mul-le-mul_right Y hn)
  where
    spread : n * (562949953421312 * f) ≤ n * (33554448 * β + 562949953421312 * (17 * Y + 41943081)) →
        562949953421312 * (n * f) ≤ 33554448 * (n * β) + 562949953421312 * (17 * (n * Y) + 41943081 * n)
    spread h = omega arith

    first : (nf nβ nY : ℕ) → 562949953421312 * nf ≤ 33554448 * nβ + 562949953421312 * (17 * nY + 41943081 * n) → nβ ≤ 160800000000000000000 * X
        → nf ≤ 9590000000000 * X + 17 * nY + 41943081 * n
    first nf nβ nY e₁ e₂ = omega arith

    last : (nf nY : ℕ) → nf ≤ 9590000000000 * X + 17 * nY + 41943081 * n → nY ≤ 36864000000 * Y → nf ≤ force X Y
    last nf nY e₁ e₂ = omega arith

-- ---- the residue is the input's part S₂ with four errors
parts : (M α A S₂ S₃ Q₁ Q₂ y y₁ y₂ : ℤ) → M *ℤ y +ℤ α *ℤ y₂ -ℤ A *ℤ y₁ ≡
    M *ℤ (y -ℤ (S₃ -ℤ Q₂)) +ℤ M *ℤ (S₃ -ℤ (S₂ -ℤ Q₁)) +ℤ M *ℤ S₂ -ℤ (M *ℤ Q₁ -ℤ neg_ℤ A *ℤ y₁) -ℤ (M *ℤ Q₂ -ℤ α *ℤ y₂)
parts M α A S₂ S₃ Q₁ Q₂ y y₁ y₂ =
    let m = var 0 in let a = var 1 in let b = var 2 in let s₂ = var 3 in let s₃ = var 4 in let q₁ = var 5 in let q₂ = var 6 in
    let z = var 7 in let z₁ = var 8 in let z₂ = var 9 in
    ring (M ∷ α ∷ A ∷ S₂ ∷ S₃ ∷ Q₁ ∷ Q₂ ∷ y ∷ y₁ ∷ y₂ ∷ []) (m ⊗ z ⊕ a ⊗ z₂ ⊖ b ⊗ z₁)
    (m ⊗ (z ⊖ (s₃ ⊖ q₂)) ⊕ m ⊗ (s₃ ⊖ (s₂ ⊖ q₁)) ⊕ m ⊗ s₂ ⊖ (m ⊗ q₁ ⊖ neg b ⊗ z₁) ⊖ (m ⊗ q₂ ⊖ a ⊗ z₂)) tt

five : (M : ℕ) (a b c d e : ℤ) → nat_abs (pos M *ℤ a +ℤ pos M *ℤ b +ℤ pos M *ℤ c -ℤ d -ℤ e) ≤ M * nat_abs a + M * nat_abs b + M * nat_abs c + nat_abs d + nat_abs e
five M a b c d e =
    let u : ℤ = pos M *ℤ a +ℤ pos M *ℤ b in
    omega (
      arith,
      abs_minus (u +ℤ pos M *ℤ c -ℤ d) e,
      abs_minus (u +ℤ pos M *ℤ c) d,
      abs_add u (pos M *ℤ c),
      abs_add (pos M *ℤ a) (pos M *ℤ b),
      abs_mul M a,
      abs_mul M b,
      abs_mul M c,
    )

module _ (N α A b₀ b₁ b₂ X Y : ℕ) (x₀ x₁ x₂ y₁ y₂ y : ℤ) (hα : α ≤ 16777216) (hA : A ≤ 33554432) (hY : 8589934592 ≤ Y) (k₁ : nat_abs y₁ ≤ 2 * Y) (k₂ : nat_abs y₂ ≤ 2 * Y)
    (c : Steps α A b₀ b₁ b₂ x₀ x₁ x₂ y₁ y₂ y) where
  weight : (a c y : ℕ) → a ≤ c → y ≤ 2 * Y → a * y ≤ c * (2 * Y)
  weight a c y h k = le_trans (mul-le-mul_right y h) (mul-le-mul_left c k)

  recursion : nat_abs (residue α A y y₁ y₂) ≤ 16777219 * nat_abs c.S₂ + 17 * Y + 16777216
  recursion =
      let S₂ : ℤ = c.S₂ in
      let S₃ : ℤ = c.S₃ in
      let Q₁ : ℤ = c.Q₁ in
      let Q₂ : ℤ = c.Q₂ in
      let E₁ : ℤ = pos 16777216 *ℤ Q₁ -ℤ neg_ℤ (pos A) *ℤ y₁ in
      let E₂ : ℤ = pos 16777216 *ℤ Q₂ -ℤ pos α *ℤ y₂ in
      let a₁ : (nat_abs E₁ ≤ 4 * Y + 8388608) × (16777216 * nat_abs Q₁ ≤ 16777217 * (4 * Y) + 8388608) =
      back Q₁ (neg_ℤ (pos A) *ℤ y₁) (4 * Y) (rw abs_neg_mul (le_trans (weight A 33554432 (nat_abs y₁) hA k₁) (omega arith))) c.q₁ in
      let a₂ : (nat_abs E₂ ≤ 2 * Y + 8388608) × (16777216 * nat_abs Q₂ ≤ 16777217 * (2 * Y) + 8388608) =
      back Q₂ (pos α *ℤ y₂) (2 * Y) (rw abs_mul (weight α 16777216 (nat_abs y₂) hα k₂)) c.q₂ in
      gather Y (nat_abs (residue α A y y₁ y₂)) (nat_abs (S₃ -ℤ (S₂ -ℤ Q₁))) (nat_abs (y -ℤ (S₃ -ℤ Q₂))) (nat_abs S₂) (nat_abs S₃) (nat_abs E₁) (nat_abs E₂) (nat_abs Q₁) (nat_abs Q₂)
      (rw (parts (pos 16777216) (pos α) (pos A) S₂ S₃ Q₁ Q₂ y y₁ y₂) (five 16777216 (y -ℤ (S₃ -ℤ Q₂)) (S₃ -ℤ (S₂ -ℤ Q₁)) S₂ E₁ E₂))
      (le_trans c.s.near (abs_minus S₃ Q₂)) (le_trans c.s₃.near (abs_minus S₂ Q₁))
      (le_trans (abs_from S₃ (S₂ -ℤ Q₁)) (add-le-add (le_refl (nat_abs (S₃ -ℤ (S₂ -ℤ Q₁)))) (abs_minus S₂ Q₁)))
      a₁.0 a₂.0 (back' (nat_abs Q₁) (4 * Y) a₁.1 (omega (arith, hY))) (back' (nat_abs Q₂) (2 * Y) a₂.1 (omega (arith, hY)))

  pub small : N ≤ 192000 → N * N * (b₀ + b₁ + b₂) ≤ 160800000000000000000 → nat_abs x₀ ≤ X → nat_abs x₁ ≤ X → nat_abs x₂ ≤ X
      → N * N * nat_abs (residue α A y y₁ y₂) ≤ force X Y
  small hN hb h₀ h₁ h₂ =
      let p₀ : ℕ = nat_abs c.P₀ in
      let p₁ : ℕ = nat_abs c.P₁ in
      let p₂ : ℕ = nat_abs c.P₂ in
      let t : 16777219 * nat_abs c.S₂ ≤ 16777222 * (p₀ + p₁ + p₂) =
      sums' (nat_abs c.S₂) (p₀ + p₁ + p₂) (sums (nat_abs c.S₁) (nat_abs c.S₂) p₀ p₁ p₂ (added c.S₁ c.P₂ c.P₁ c.s₁) (added c.S₂ c.S₁ c.P₀ c.s₂)) in
      scaled X Y (N * N) (nat_abs (residue α A y y₁ y₂)) (b₀ * X + b₁ * X + b₂ * X) (square N hN) hY (omega (arith, mul-le-mul_right X hb))
      (inputs Y (nat_abs (residue α A y y₁ y₂)) (nat_abs c.S₂) p₀ p₁ p₂ (b₀ * X) (b₁ * X) (b₂ * X) recursion t
      (fed c.P₀ x₀ b₀ X h₀ c.p₀) (fed c.P₁ x₁ b₁ X h₁ c.p₁) (fed c.P₂ x₂ b₂ X h₂ c.p₂))
    where
      square : (N : ℕ) → N ≤ 192000 → N * N ≤ 36864000000
      square N h = le_trans (mul-le-mul_left N h) (mul-le-mul_right 192000 h)
