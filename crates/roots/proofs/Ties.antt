-- A root of an f32 never lies half way between two f32. A number whose p-th power has at most 24 digits has as few itself, zeros at the end not counted: its odd part to the power
-- p is the odd part of that power. So where the root is half of the sum of two numbers of the grid, that half is on the grid, and nearer than both. Assumes nothing.
use mathlib.Core.Path.{◌≡◌, refl, sym, ap, ◌∙◌, subst}
use mathlib.Core.Logic.{inl, inr}
use Prim.Native.Nat.{ℕ, zero, suc, ◌+◌, ◌*◌, ◌/◌, ◌^◌, ◌≤◌, ◌<◌}
use native.Mathlib.Nat.{le_trans, le_of_eq, lt_of_lt_of_le, lt_of_le_of_lt, lt_irrefl, eq-or-lt_of_le, mul-one, one-mul, mul_comm, mul_left_comm}
use native.Mathlib.Nat.{mul-le-mul_left, mul-le-mul_right, pow-succ', pow-le-pow_right, pow-lt-pow_left}
use native.Mathlib.Omega.{arith}
use lib.Pow.{pow_pos}
use lib.Ieee.{size}
use lib.Ieee.Digits.{size-lt}
use Rattle.ieee.proofs.Grid.{OnGrid, le_or_lt, grid_small, grid_up, grid_down}
use Rattle.roots.proofs.Odd.{Odd, odd_pow, parity}
use Rattle.roots.proofs.Floor.{mul_pow, one_pow}
use Rattle.roots.proofs.Rooted.{GridRoot}

module _ (p : ℕ) (some : 0 < p) where
  -- ---- a number whose power is on the grid
  odd_grid : (x : ℕ) → Odd x → OnGrid (x ^ p) → OnGrid x
  odd_grid x o g = go g.j g.is
    where
      self : x ≤ x ^ p
      self = le_trans (le_of_eq (sym (one_pow x))) (pow-le-pow_right (omega (arith, o.is)) some)

      even : (q t y : ℕ) → Odd y → y ≡ q * (2 * t) → ⊥
      even q t y o e = omega (arith, o.is, e)

      go : (j : ℕ) → x ^ p ≡ g.q * 2 ^ j → OnGrid x
      go zero e = grid_small x (lt_of_le_of_lt (le_trans self (le_of_eq (e ∙ mul-one g.q))) g.small)
      go (suc j) e = absurd (even g.q (2 ^ j) (x ^ p) (odd_pow o p) (e ∙ ap (λ (t : ℕ). g.q * t) (pow-succ' 2 j)))

  on_grid : (d x : ℕ) → x < 2 ^ d → OnGrid (x ^ p) → OnGrid x
  on_grid zero x h g = grid_small x (omega arith)
  on_grid (suc d) x h g = elim (parity x) [
    | inl e ↦
        let i : OnGrid ((x / 2) ^ p * 2 ^ p) = subst OnGrid (ap (λ (y : ℕ). y ^ p) e ∙ mul_pow (x / 2) 2 p) g in
        subst OnGrid (sym e) (grid_up (x / 2) 1 (on_grid d (x / 2) (half (2 ^ d) (pow-succ' 2 d)) (grid_down ((x / 2) ^ p) p i)))
    | inr o ↦ odd_grid x o g
  ]
    where
      half : (t : ℕ) → 2 ^ suc d ≡ 2 * t → x / 2 < t
      half t e = omega (arith, h, e)

  pub power_grid : (x : ℕ) → OnGrid (x ^ p) → OnGrid x
  power_grid x = on_grid (size x) x (size-lt x)

  greater : {a b : ℕ} → a < b → a ^ p < b ^ p
  greater h = pow-lt-pow_left h (λ z. lt_irrefl 0 (lt_of_lt_of_le some (le_of_eq z)))

  -- ---- a number of the grid up to the root is not above the nearest one
  pub root_least : {S u c : ℕ} → OnGrid c → c ^ p ≤ S → GridRoot p S u → c ≤ u
  root_least {S} {u} {c} g h r = elim (le_or_lt c u) [ inl l ↦ l | inr l ↦ absurd (lt_irrefl _ (lt_of_lt_of_le (greater (twice l)) (le_trans all (r.above c g l)))) ]
    where
      all : (2 * c) ^ p ≤ 2 ^ p * S
      all = le_trans (le_of_eq (mul_pow 2 c p)) (mul-le-mul_left (2 ^ p) h)

      twice : u < c → c + u < 2 * c
      twice l = omega arith

  -- ---- what lies as far from the root as the nearest number of the grid is that number
  pub no_tie : {S u v : ℕ} → OnGrid S → (2 ^ 24) ^ p ≤ S → GridRoot p S u → (v + u) ^ p ≡ 2 ^ p * S → v ≡ u
  no_tie {S} {u} {v} on large r e = go sum.j sum.is
    where
      sum : OnGrid (v + u)
      sum = power_grid (v + u) (subst OnGrid (mul_comm S (2 ^ p) ∙ sym e) (grid_up S p on))

      few : v + u < 2 ^ 24 → ⊥
      few h = lt_irrefl _ (lt_of_lt_of_le (greater h) (le_trans large (le_trans (le_of_eq (sym (one-mul S))) (le_trans (mul-le-mul_right S (pow_pos p)) (le_of_eq (sym e))))))

      -- w is half of the sum
      middle : (w : ℕ) → OnGrid w → v + u ≡ 2 * w → v ≡ u
      middle w g h = elim (le_or_lt v u) [
        | inr l ↦ absurd (lt_irrefl _ (lt_of_lt_of_le (greater {a = w + u} {b = v + u} (omega arith)) (le_trans (le_of_eq e) (r.above w g (omega arith)))))
        | inl l ↦ elim (eq-or-lt_of_le l) [
          | inl i ↦ i
          | inr k ↦ absurd (lt_irrefl _ (lt_of_lt_of_le (greater {a = v + u} {b = w + u} (omega arith)) (le_trans (r.below w g (omega arith)) (le_of_eq (sym e)))))
        ]
      ]

      go : (j : ℕ) → v + u ≡ sum.q * 2 ^ j → v ≡ u
      go zero i = absurd (few (lt_of_le_of_lt (le_of_eq (i ∙ mul-one sum.q)) sum.small))
      go (suc j) i =
          middle (sum.q * 2 ^ j) (record { q = sum.q; j = j; small = sum.small; is = refl }) (i ∙ ap (λ (t : ℕ). sum.q * t) (pow-succ' 2 j) ∙ mul_left_comm sum.q 2 (2 ^ j))
