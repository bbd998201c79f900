-- What holds at each number of a range, shown one by one. Assumes nothing.
use mathlib.Core.Logic.{⊎_elim}
use mathlib.Core.Path.{◌≡◌, subst}
use Prim.Native.Nat.{ℕ, zero, suc, ◌+◌, ◌≤◌, ◌<◌}
use native.Mathlib.Omega.{arith}
use native.Mathlib.Nat.{eq-or-lt_of_le}

abbrev pub Each : (ℕ → Type 0) → ℕ → ℕ → Type 0
Each P a zero = Unit {0}
Each P a (suc k) = P a × Each P (suc a) k

pub between : (P : ℕ → Type 0) (a k : ℕ) → Each P a k → (n : ℕ) → a ≤ n → n < a + k → P n
between P a zero e n h l = absurd (omega arith)
between P a (suc k) e n h l = ⊎_elim (λ w. subst P w e.0) (λ w. between P (suc a) k e.1 n w (omega arith)) (eq-or-lt_of_le h)

-- x is none of 0, 1, .., k - 1, as the rest of a `match` says it
abbrev pub NoneOf : ℕ → ℕ → Type 0
NoneOf x zero = Unit {0}
NoneOf x (suc k) = NoneOf x k × (x ≡ k → ⊥)

pub not_below : (x k : ℕ) → NoneOf x k → k ≤ x
not_below x zero n = omega arith
not_below x (suc k) n = let h = not_below x k n.0 in let m = n.1 in omega arith
