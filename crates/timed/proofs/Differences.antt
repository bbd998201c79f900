-- A signed number as a difference of two that are not below 0: sums, differences and comparisons of such numbers are those of the parts. Assumes nothing.
use Prim.Native.Nat.{ℕ, zero, suc, ◌+◌, ◌-◌, ◌≤◌, ◌<◌}
use mathlib.Core.Path.{◌≡◌, refl, sym, ◌∙◌}
use mathlib.Core.Bool.{Bool, true, false, cond}
use native.Mathlib.Omega.{arith}
use lib.Dec.{leb, ltb}
use lib.IntN.{ℤ, pos, negsuc, neg_ℤ, sub_ℕ, ◌+ℤ◌, ◌-ℤ◌}
use lib.Signed.{lt_z, le_z}
use borrow.Author.Tests.{ltb-true, ltb-false, leb-true, lt-ltb, le-ltb, le-leb, lt-leb}
use Rattle.timed.specs.Rules.{natural}

-- z is a - b
abbrev pub Is : ℤ → ℕ → ℕ → Type 0
Is (pos n) a b = a ≡ n + b
Is (negsuc n) a b = b ≡ n + 1 + a

-- ---- two tests are one

pub ltb_same : (a b c d : ℕ) → (a < b → c < d) → (c < d → a < b) → ltb a b ≡ ltb c d
ltb_same a b c d f g = by (ltb a b) (ltb c d) refl refl
  where
    by : (s t : Bool) → ltb a b ≡ s → ltb c d ≡ t → ltb a b ≡ ltb c d
    by true t e f' = e ∙ sym (lt-ltb c d (f (ltb-true a b e)))
    by false true e f' = lt-ltb a b (g (ltb-true c d f')) ∙ sym f'
    by false false e f' = e ∙ sym f'

pub leb_same : (a b c d : ℕ) → (a ≤ b → c ≤ d) → (c ≤ d → a ≤ b) → leb a b ≡ leb c d
leb_same a b c d f g = by (leb a b) (leb c d) refl refl
  where
    by : (s t : Bool) → leb a b ≡ s → leb c d ≡ t → leb a b ≡ leb c d
    by true t e f' = e ∙ sym (le-leb c d (f (leb-true a b e)))
    by false true e f' = le-leb a b (g (leb-true c d f')) ∙ sym f'
    by false false e f' = e ∙ sym f'

-- ---- sums and differences

pub is_pos : (n : ℕ) → Is (pos n) n 0
is_pos n = omega arith

-- any a and b whose difference is that of c and d
pub is_sub : (c d a b : ℕ) → a + d ≡ c + b → Is (sub_ℕ c d) a b
is_sub c d a b h = by (ltb c d) refl
  where
    by : (t : Bool) → ltb c d ≡ t → Is (cond t (negsuc (d - suc c)) (pos (c - d))) a b
    by true e = let l = ltb-true c d e in omega arith
    by false e = let l = ltb-false c d e in omega arith

pub is_plus : (x y : ℤ) (a b c d : ℕ) → Is x a b → Is y c d → Is (x +ℤ y) (a + c) (b + d)
is_plus (pos m) (pos n) a b c d h k = omega arith
is_plus (pos m) (negsuc n) a b c d h k = is_sub m (suc n) (a + c) (b + d) (omega arith)
is_plus (negsuc m) (pos n) a b c d h k = is_sub n (suc m) (a + c) (b + d) (omega arith)
is_plus (negsuc m) (negsuc n) a b c d h k = omega arith

pub is_neg : (x : ℤ) (a b : ℕ) → Is x a b → Is (neg_ℤ x) b a
is_neg (pos zero) a b h = omega arith
is_neg (pos (suc n)) a b h = omega arith
is_neg (negsuc n) a b h = omega arith

pub is_minus : (x y : ℤ) (a b c d : ℕ) → Is x a b → Is y c d → Is (x -ℤ y) (a + d) (b + c)
is_minus x y a b c d h k = is_plus x (neg_ℤ y) a b d c h (is_neg y c d k)

pub is_less : (a b : ℕ) → Is (pos a -ℤ pos b) a b
is_less a b = go (is_minus (pos a) (pos b) a 0 b 0 (is_pos a) (is_pos b))
  where
    go : Is (pos a -ℤ pos b) (a + 0) (0 + b) → Is (pos a -ℤ pos b) a b
    go h = let e : a + 0 ≡ a = omega arith in let f : 0 + b ≡ b = omega arith in rw (e, f) at h

-- ---- what it gives

pub is_natural : (x : ℤ) (a b : ℕ) → Is x a b → natural x ≡ a - b
is_natural (pos n) a b h = omega arith
is_natural (negsuc n) a b h = omega arith

pub is_lt : (x y : ℤ) (a b c d : ℕ) → Is x a b → Is y c d → lt_z x y ≡ ltb (a + d) (c + b)
is_lt (pos m) (pos n) a b c d h k = ltb_same m n (a + d) (c + b) (λ l. omega arith) (λ l. omega arith)
is_lt (pos m) (negsuc n) a b c d h k = sym (le-ltb (a + d) (c + b) (omega arith))
is_lt (negsuc m) (pos n) a b c d h k = sym (lt-ltb (a + d) (c + b) (omega arith))
is_lt (negsuc m) (negsuc n) a b c d h k = ltb_same n m (a + d) (c + b) (λ l. omega arith) (λ l. omega arith)

pub is_le : (x y : ℤ) (a b c d : ℕ) → Is x a b → Is y c d → le_z x y ≡ leb (a + d) (c + b)
is_le (pos m) (pos n) a b c d h k = leb_same m n (a + d) (c + b) (λ l. omega arith) (λ l. omega arith)
is_le (pos m) (negsuc n) a b c d h k = sym (lt-leb (a + d) (c + b) (omega arith))
is_le (negsuc m) (pos n) a b c d h k = sym (le-leb (a + d) (c + b) (omega arith))
is_le (negsuc m) (negsuc n) a b c d h k = leb_same n m (a + d) (c + b) (λ l. omega arith) (λ l. omega arith)

-- one number, two differences: the number is one
pub is_one : (x y : ℤ) (a b : ℕ) → Is x a b → Is y a b → x ≡ y
is_one (pos m) (pos n) a b h k = let e : m ≡ n = omega arith in rw e
is_one (pos m) (negsuc n) a b h k = absurd (let z : ◌<◌ 0 0 = omega arith in omega arith)
is_one (negsuc m) (pos n) a b h k = absurd (let z : ◌<◌ 0 0 = omega arith in omega arith)
is_one (negsuc m) (negsuc n) a b h k = let e : m ≡ n = omega arith in rw e
