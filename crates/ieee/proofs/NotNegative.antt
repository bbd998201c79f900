-- Order on ℤ without an order: `NN z` says that z is not negative and holds the natural number that it is. To show a ≤ b, show NN (b - a): by an identity (`nn_by`, with
-- `ring`) as a sum of products of squares and of numbers that are not negative, after multiplying by a positive number (`nn_cancel`). Then the sizes of integers, `nat_abs`:
-- of products, the triangle inequality, and the way between |a| ≤ n and n² - a² (`nn_of_abs`, `abs_of_nn`). Assumes nothing.
use mathlib.Core.Path.{◌≡◌, refl, sym, ◌∙◌, ap, ap₂, subst}
use mathlib.Core.List.{[], ◌∷◌}
use mathlib.Core.Bool.{Bool, true, false, not, cond}
use Prim.Native.Nat.{ℕ, zero, suc, ◌+◌, ◌*◌, ◌-◌, ◌≤◌, ◌<◌}
use native.Mathlib.Nat.{le_trans, mul-le-mul_left, mul-le-mul_right}
use native.Mathlib.Omega.{arith}
use lib.Dec.{T, ltb, leb, ltb→lt, nltb→le, leb→le, nleb→lt}
use lib.IntN.{ℤ, pos, negsuc, neg_ℤ, nat_abs, ◌+ℤ◌, ◌-ℤ◌, ◌*ℤ◌, pos-ne-negsuc}
use lib.Signed.{non_neg}
use Rattle.ieee.proofs.Ring.{var, ◌⊕◌, ◌⊖◌, ◌⊗◌, neg, ring}

pub record NN (z : ℤ) : Type 0 where
  pub size : ℕ
  pub is : z ≡ pos size

pub nn : (n : ℕ) → NN (pos n)
nn n = record { size = n; is = refl }

pub nn_test : (z : ℤ) → T (non_neg z) → NN z
nn_test (pos n) t = nn n
nn_test (negsuc n) t = absurd t

pub nn_add : {a b : ℤ} → NN a → NN b → NN (a +ℤ b)
nn_add h k = record { size = h.size + k.size; is = ap₂ ◌+ℤ◌ h.is k.is }

pub nn_mul : {a b : ℤ} → NN a → NN b → NN (a *ℤ b)
nn_mul h k = record { size = h.size * k.size; is = ap₂ ◌*ℤ◌ h.is k.is }

pub nn_sq : (a : ℤ) → NN (a *ℤ a)
nn_sq (pos n) = nn (n * n)
nn_sq (negsuc n) = nn (suc n * suc n)

-- by an identity
pub nn_by : {a b : ℤ} → a ≡ b → NN b → NN a
nn_by e h = record { size = h.size; is = e ∙ h.is }

abbrev pub pos_z : ℤ → Bool
pos_z (pos n) = ltb 0 n
pos_z (negsuc n) = false

pub nn_of_pos : (z : ℤ) → T (pos_z z) → NN z
nn_of_pos (pos n) t = nn n
nn_of_pos (negsuc n) t = absurd t

-- a positive factor is cancelled
pub nn_cancel : (a z : ℤ) → T (pos_z a) → NN (a *ℤ z) → NN z
nn_cancel (negsuc a) z t h = absurd t
nn_cancel (pos a) (pos n) t h = nn n
nn_cancel (pos a) (negsuc n) t h = absurd (pos-ne-negsuc h.size _ (sym h.is ∙ ap (λ (m : ℕ). neg_ℤ (pos m)) (above a n (ltb→lt 0 a t)).1))
  where
    above : (a n : ℕ) → 0 < a → (m : ℕ) × (a * suc n ≡ suc m)
    above zero n h = absurd (omega arith)
    above (suc a) n h = (a * suc n + n, omega arith)

-- ---- sizes
sq_abs : (a : ℤ) → a *ℤ a ≡ pos (nat_abs a * nat_abs a)
sq_abs (pos n) = refl
sq_abs (negsuc n) = refl

pub nn_sub : (a b : ℕ) → b ≤ a → NN (pos a -ℤ pos b)
nn_sub a zero h = nn (a + zero)
nn_sub a (suc b) h = cond_nn (ltb a (suc b)) (negsuc (suc b - suc a)) (a - suc b) (λ t. absurd (clash a b h (ltb→lt a (suc b) t)))
  where
    clash : (a b : ℕ) → suc b ≤ a → a < suc b → ⊥
    clash a b h k = omega arith

    cond_nn : (c : Bool) (u : ℤ) (n : ℕ) → (T c → NN u) → NN (cond c u (pos n))
    cond_nn true u n f = f tt
    cond_nn false u n f = nn n

le_of_nn : (a b : ℕ) → NN (pos a -ℤ pos b) → b ≤ a
le_of_nn a zero h = omega arith
le_of_nn a (suc b) h = pick (ltb a (suc b)) refl
  where
    pick : (c : Bool) → ltb a (suc b) ≡ c → suc b ≤ a
    pick true e = absurd (pos-ne-negsuc h.size _ (sym h.is ∙ ap (λ c. cond c (negsuc (suc b - suc a)) (pos (a - suc b))) e))
    pick false e = nltb→le a (suc b) (subst (λ c. T (not c)) (sym e) tt)

sq_mono : (a b : ℕ) → a ≤ b → a * a ≤ b * b
sq_mono a b h = le_trans (mul-le-mul_left a h) (mul-le-mul_right b h)

-- |a| ≤ n gives n² - a² ≥ 0, and back
pub nn_of_abs : (n : ℕ) (a : ℤ) → nat_abs a ≤ n → NN (pos (n * n) -ℤ a *ℤ a)
nn_of_abs n a h = nn_by (ap (λ x. pos (n * n) -ℤ x) (sq_abs a)) (nn_sub (n * n) (nat_abs a * nat_abs a) (sq_mono (nat_abs a) n h))

pub abs_of_nn : (n : ℕ) (a : ℤ) → NN (pos (n * n) -ℤ a *ℤ a) → nat_abs a ≤ n
abs_of_nn n a h = lt_sq (nat_abs a) n (le_of_nn (n * n) (nat_abs a * nat_abs a) (nn_by (ap (λ x. pos (n * n) -ℤ x) (sym (sq_abs a))) h))
  where
    lt_sq : (a b : ℕ) → a * a ≤ b * b → a ≤ b
    lt_sq a b h = pick (leb a b) refl
      where
        pick : (c : Bool) → leb a b ≡ c → a ≤ b
        pick true e = leb→le a b (subst T (sym e) tt)
        pick false e =
            let k : b < a = nleb→lt a b (subst (λ c. T (not c)) (sym e) tt) in
            let m : suc b * suc b ≤ a * a = sq_mono (suc b) a k in
            absurd (omega arith)

pub abs_mul : (n : ℕ) (a : ℤ) → nat_abs (pos n *ℤ a) ≡ n * nat_abs a
abs_mul n (pos a) = refl
abs_mul n (negsuc a) = abs_neg (n * suc a)
  where
    abs_neg : (n : ℕ) → nat_abs (neg_ℤ (pos n)) ≡ n
    abs_neg zero = refl
    abs_neg (suc n) = refl

-- ---- the triangle
abs_sub : (a b : ℕ) → nat_abs (cond (ltb a b) (negsuc (b - suc a)) (pos (a - b))) ≤ a + b
abs_sub a b = go (ltb a b) (ltb→lt a b)
  where
    go : (c : Bool) → (T c → a < b) → nat_abs (cond c (negsuc (b - suc a)) (pos (a - b))) ≤ a + b
    go true h = let k : a < b = h tt in omega arith
    go false h = omega arith

pub abs_add : (a b : ℤ) → nat_abs (a +ℤ b) ≤ nat_abs a + nat_abs b
abs_add (pos a) (pos b) = omega arith
abs_add (pos a) (negsuc b) = abs_sub a (suc b)
abs_add (negsuc a) (pos b) = omega (arith, abs_sub b (suc a))
abs_add (negsuc a) (negsuc b) = omega arith

pub abs_neg : (a : ℤ) → nat_abs (neg_ℤ a) ≡ nat_abs a
abs_neg (pos zero) = refl
abs_neg (pos (suc a)) = refl
abs_neg (negsuc a) = refl

pub abs_minus : (a b : ℤ) → nat_abs (a -ℤ b) ≤ nat_abs a + nat_abs b
abs_minus a b = subst (λ (n : ℕ). nat_abs (a -ℤ b) ≤ nat_abs a + n) (abs_neg b) (abs_add a (neg_ℤ b))

-- a number is at most as far from 0 as another with their distance
pub abs_from : (v z : ℤ) → nat_abs v ≤ nat_abs (v -ℤ z) + nat_abs z
abs_from v z = subst (λ (u : ℤ). nat_abs u ≤ nat_abs (v -ℤ z) + nat_abs z) (ring (v ∷ z ∷ []) ((var 0 ⊖ var 1) ⊕ var 1) (var 0) tt) (abs_add (v -ℤ z) z)

pub abs_neg_mul : (n : ℕ) (a : ℤ) → nat_abs (neg_ℤ (pos n) *ℤ a) ≡ n * nat_abs a
abs_neg_mul n a = ap nat_abs (ring (pos n ∷ a ∷ []) (neg (var 0) ⊗ var 1) (neg (var 0 ⊗ var 1)) tt) ∙ abs_neg (pos n *ℤ a) ∙ abs_mul n a

pub abs_times : (a b : ℤ) → nat_abs (a *ℤ b) ≡ nat_abs a * nat_abs b
abs_times (pos a) b = abs_mul a b
abs_times (negsuc a) b = abs_neg_mul (suc a) b

-- ---- the distance of two natural numbers
pub gap_above : (a b : ℕ) → a ≤ b + nat_abs (pos a -ℤ pos b)
gap_above a zero = omega arith
gap_above a (suc b) = go (ltb a (suc b)) (ltb→lt a (suc b)) (nltb→le a (suc b))
  where
    go : (c : Bool) → (T c → a < suc b) → (T (not c) → suc b ≤ a) → a ≤ suc b + nat_abs (cond c (negsuc (suc b - suc a)) (pos (a - suc b)))
    go true h k = let l : a < suc b = h tt in omega arith
    go false h k = let l : suc b ≤ a = k tt in omega arith

pub gap_below : (a b : ℕ) → b ≤ a + nat_abs (pos a -ℤ pos b)
gap_below a zero = omega arith
gap_below a (suc b) = go (ltb a (suc b)) (ltb→lt a (suc b)) (nltb→le a (suc b))
  where
    go : (c : Bool) → (T c → a < suc b) → (T (not c) → suc b ≤ a) → suc b ≤ a + nat_abs (cond c (negsuc (suc b - suc a)) (pos (a - suc b)))
    go true h k = let l : a < suc b = h tt in omega arith
    go false h k = let l : suc b ≤ a = k tt in omega arith

pub gap_of : (a b e : ℕ) → a ≤ b + e → b ≤ a + e → nat_abs (pos a -ℤ pos b) ≤ e
gap_of a zero e h k = omega arith
gap_of a (suc b) e h k = go (ltb a (suc b)) (ltb→lt a (suc b))
  where
    go : (c : Bool) → (T c → a < suc b) → nat_abs (cond c (negsuc (suc b - suc a)) (pos (a - suc b))) ≤ e
    go true l = let m : a < suc b = l tt in omega arith
    go false l = omega arith
