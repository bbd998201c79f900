-- The cut terms: each is less than what it is cut from by less than a step, and the terms fall. y is the square of the angle w, below 2 ^ -6 in steps of 2 ^ -64. Assumes nothing.
use mathlib.Core.Path.{◌≡◌, sym, subst}
use Prim.Native.Nat.{ℕ, ◌+◌, ◌-◌, ◌*◌, ◌/◌, ◌^◌, ◌≤◌, ◌<◌}
use native.Mathlib.Nat.{le_trans, le_of_lt, mul-pos, mul-le-mul_right, div-le_self, div-mul-le_self, div-lt_iff_lt-mul, div-div-eq-div-mul}
use native.Mathlib.Omega.{arith}
use lib.Pow.{pow_pos}
use Rattle.rates.specs.Series.{next_term, five}
use Rattle.angles.proofs.Partial.{factor_pos}

-- ---- a term
pub falls : (y t n : ℕ) → y < 2 ^ 58 → next_term y t n ≤ t
falls y t n h = let l : y * t ≤ 2 ^ 58 * t = mul-le-mul_right t (le_of_lt h) in le_trans (div-le_self (y * t / 2 ^ 64) n) (omega arith)

pub low_term : (y t n : ℕ) → next_term y t n * (2 ^ 64 * n) ≤ y * t
low_term y t n = subst (λ (x : ℕ). x * (2 ^ 64 * n) ≤ y * t) (sym (div-div-eq-div-mul (y * t) (2 ^ 64) n)) (div-mul-le_self (y * t) (2 ^ 64 * n))

-- two steps more on both sides
pub high_term : (y t n : ℕ) → y < 2 ^ 58 → 0 < n → y * (t + 2) ≤ (next_term y t n + 2) * (2 ^ 64 * n)
high_term y t n Y N =
    go (next_term y t n) n N
    (subst (λ (x : ℕ). y * t < (x + 1) * (2 ^ 64 * n)) (sym (div-div-eq-div-mul (y * t) (2 ^ 64) n)) ((div-lt_iff_lt-mul (mul-pos (pow_pos 64) N)).0 (next (y * t / (2 ^ 64 * n)))))
  where
    next : (d : ℕ) → d < d + 1
    next d = omega arith

    go : (x n : ℕ) → 0 < n → y * t < (x + 1) * (2 ^ 64 * n) → y * (t + 2) ≤ (x + 2) * (2 ^ 64 * n)
    go x n N h = omega arith

pub term_small : (y t n : ℕ) → y < 2 ^ 58 → 64 * (n * next_term y t n) ≤ t
term_small y t n h = go (next_term y t n) (low_term y t n) (mul-le-mul_right t (le_of_lt h))
  where
    go : (x : ℕ) → x * (2 ^ 64 * n) ≤ y * t → y * t ≤ 2 ^ 58 * t → 64 * (n * x) ≤ t
    go x a b = omega arith

-- ---- the terms from t on: s is 0 for the cosine and 1 for the sine
-- what divides the term after the power s + 2 * k
abbrev pub by : (s k : ℕ) → ℕ
by s k = (s + 2 * k + 1) * (s + 2 * k + 2)

abbrev pub t₁ : (s w t : ℕ) → ℕ
t₁ s w t = next_term (w * w) t (by s 0)

abbrev pub t₂ : (s w t : ℕ) → ℕ
t₂ s w t = next_term (w * w) (t₁ s w t) (by s 1)

abbrev pub t₃ : (s w t : ℕ) → ℕ
t₃ s w t = next_term (w * w) (t₂ s w t) (by s 2)

abbrev pub t₄ : (s w t : ℕ) → ℕ
t₄ s w t = next_term (w * w) (t₃ s w t) (by s 3)

-- the cut sum
abbrev pub sum : (s w t : ℕ) → ℕ
sum s w t = t - t₁ s w t + t₂ s w t - t₃ s w t + t₄ s w t

pub record Falling (t u v x y : ℕ) : Type 0 where
  pub first : 64 * u ≤ t
  pub second : 64 * v ≤ u
  pub third : x ≤ v
  pub fourth : y ≤ x

pub falling : (s w t : ℕ) → w * w < 2 ^ 58 → Falling t (t₁ s w t) (t₂ s w t) (t₃ s w t) (t₄ s w t)
falling s w t few = record { first = small 0 t; second = small 1 (t₁ s w t); third = falls (w * w) (t₂ s w t) (by s 2) few; fourth = falls (w * w) (t₃ s w t) (by s 3) few }
  where
    small : (k t : ℕ) → 64 * next_term (w * w) t (by s k) ≤ t
    small k t = go (by s k) (next_term (w * w) t (by s k)) (term_small (w * w) t (by s k) few) (mul-le-mul_right (next_term (w * w) t (by s k)) (factor_pos s k))
      where
        go : (n x : ℕ) → 64 * (n * x) ≤ t → 1 * x ≤ n * x → 64 * x ≤ t
        go n x a b = omega arith

pub sum_less : (s w t : ℕ) → w * w < 2 ^ 58 → 0 < t₁ s w t → sum s w t < t
sum_less s w t few h = go t (t₁ s w t) (t₂ s w t) (t₃ s w t) (t₄ s w t) h (falling s w t few)
  where
    go : (t u v x y : ℕ) → 0 < u → Falling t u v x y → t - u + v - x + y < t
    go t u v x y h f = omega arith

-- ---- as the code goes from term to term
pub five_is : (y t n₁ n₂ n₃ n₄ : ℕ) {a b c d : ℕ} → a ≡ next_term y t n₁ → b ≡ next_term y a n₂ → c ≡ next_term y b n₃ → d ≡ next_term y c n₄ → t - a + b - c + d ≡ five y t n₁ n₂ n₃ n₄
unfolding five
five_is y t n₁ n₂ n₃ n₄ e f g h = rw (h, g, f, e)
