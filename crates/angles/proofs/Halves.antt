-- A number m of 48 binary digits after the point, as the sum of two exact f32: the sum is rounded once, from m itself. Assumes nothing.
use mathlib.Core.Path.{◌≡◌, refl, sym, ap, ◌∙◌, subst}
use mathlib.Core.Bool.{false}
use Prim.Native.Nat.{ℕ, ◌+◌, ◌*◌, ◌/◌, ◌%◌, ◌^◌, ◌≤◌, ◌<◌}
use native.Mathlib.Nat.{le_trans, le_of_eq, le_of_lt, lt_of_lt_of_le, mul_right_comm, mul-le-mul_right, div-add-mod'}
use native.Mathlib.Omega.{arith}
use lib.Dec.{lit<}
use lib.Pow.{pow_pos, pow_mono, shl_lt}
use lib.IntN.{pos, negsuc}
use lib.Ieee.{Float, fin, binary32, fits, round, of_int, add, mul}
use Rattle.ieee.specs.Units.{One, Top, mag}
use Rattle.ieee.proofs.Grid.{rnd, rnd_same, rnd_ge, grid_at, grid_pow}
use Rattle.ieee.proofs.Value.{Is, one_pos, plus_P, plus_N, shape}
use Rattle.ieee.proofs.Constants.{whole_is}
use Rattle.ieee.proofs.Unique.{same_value}
use Rattle.ieee.proofs.Digits.{Plus, Gives, plus_of, exactly, mul_plus, add_plus}
use Rattle.angles.proofs.OneMeant.{size_of}

-- n times a power of two is exact
scaled : (n j : ℕ) {c : Float} → n < 16777216 → j ≤ 125 → Plus c (2 ^ j) → Plus (mul binary32 (of_int binary32 (pos n)) c) (n * 2 ^ j)
unfolding Top
scaled n j h l p =
    mul_plus (plus_of (whole_is n h)) p
    (subst (λ (k : ℕ). Gives k One (n * 2 ^ j)) (mul_right_comm n (2 ^ j) One)
    (exactly (grid_at n j (le_of_lt h)) (lt_of_lt_of_le (shl_lt 24 j h) (pow_mono {i = 24 + j} {j = 277} (omega arith))) One one_pos))

-- 2 ^ -24 and 2 ^ -48
upper_step : Plus (fin false 1 (negsuc 23)) (2 ^ 125)
unfolding mag One fits
upper_step = record { f32 = record { fine = tt; fit = tt }; up = refl; down = refl }

lower_step : Plus (fin false 1 (negsuc 47)) (2 ^ 101)
unfolding mag One fits
lower_step = record { f32 = record { fine = tt; fit = tt }; up = refl; down = refl }

one_48 : One ≡ 2 ^ 48 * 2 ^ 101
unfolding One
one_48 = refl

abbrev summed : ℕ → Float
summed m = add binary32 (mul binary32 (of_int binary32 (pos (m / 2 ^ 24))) (fin false 1 (negsuc 23))) (mul binary32 (of_int binary32 (pos (m % 2 ^ 24))) (fin false 1 (negsuc 47)))

module _ (m : ℕ) (some : 0 < m) (h : m < 2 ^ 48) where
  abbrev R : ℕ
  R = rnd (m * One) (2 ^ 48)

  once : Is (round binary32 false m (2 ^ 48)) false R
  once = size_of m (2 ^ 48) (record { some = pow_pos 48; most = le_of_lt h })

  parts : m / 2 ^ 24 * 2 ^ 125 + m % 2 ^ 24 * 2 ^ 101 ≡ m * 2 ^ 101
  parts = go (2 ^ 101) (m / 2 ^ 24) (m % 2 ^ 24) (div-add-mod' m (2 ^ 24))
    where
      go : (z u v : ℕ) → u * 2 ^ 24 + v ≡ m → u * (2 ^ 24 * z) + v * z ≡ m * z
      go z u v e = let f : (u * 2 ^ 24 + v) * z ≡ m * z = ap (λ (x : ℕ). x * z) e in omega arith

  gives : Gives (m / 2 ^ 24 * 2 ^ 125 + m % 2 ^ 24 * 2 ^ 101) 1 R
  gives = record {
    is = ap (λ (n : ℕ). rnd n 1) parts ∙ rnd_same (m * 2 ^ 101) 1 (m * One) (2 ^ 48) (lit< tt) (pow_pos 48) (turn (2 ^ 101) ∙ sym (ap (λ (o : ℕ). m * o * 1) one_48));
    less = subst (λ (n : ℕ). n < Top) once.size (shape (round binary32 false m (2 ^ 48)) once.f32).less;
  }
    where
      turn : (z : ℕ) → m * z * 2 ^ 48 ≡ m * (2 ^ 48 * z) * 1
      turn z = omega arith

  sum : Plus (summed m) R
  sum = add_plus (scaled (m / 2 ^ 24) 125 (omega arith) (omega arith) upper_step) (scaled (m % 2 ^ 24) 101 (omega arith) (omega arith) lower_step) gives

  positive : 0 < R
  positive =
      let h = le_trans (mul-le-mul_right (2 ^ 48 * 2 ^ 101) some) (le_of_eq (sym (ap (λ (o : ℕ). m * o) one_48))) in
      lt_of_lt_of_le (pow_pos 101) (rnd_ge (grid_pow 101) (m * One) (2 ^ 48) (pow_pos 48) (le_trans (le_of_eq (turn (2 ^ 101))) h))
    where
      turn : (z : ℕ) → z * 2 ^ 48 ≡ 1 * (2 ^ 48 * z)
      turn z = omega arith

  pub two_parts : summed m ≡ round binary32 false m (2 ^ 48)
  two_parts =
      same_value (round binary32 false m (2 ^ 48)) (summed m) once.f32 sum.f32 (sum.up ∙ sym (plus_P once)) (sum.down ∙ sym (plus_N once))
      (subst (λ (n : ℕ). 0 < n) (sym once.size) positive)
