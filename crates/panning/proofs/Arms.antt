-- The arms of a `match` over the channels. Assumes nothing.
use mathlib.Core.Path.{◌≡◌, sym, ◌∙◌, subst}
use Prim.Native.Nat.{ℕ, ◌<◌, ◌%◌}
use native.Mathlib.Omega.{arith}
use lib.Ieee.{Float}

small : (k : ℕ) → k < 12 → k % 16 ≡ k
small k h = omega arith

-- an arm's value v is that of f at the channel n, where it is that at the arm's number k
pub arm : (f : ℕ → Float) (k : ℕ) {n : ℕ} {v : Float} → n < 12 → n % 16 ≡ k → v ≡ f k → v ≡ f n
arm f k {n} {v} h e is = subst (λ (j : ℕ). v ≡ f j) (sym e ∙ small n h) is

-- no channel is 15
pub no_arm : {n : ℕ} → n < 12 → n % 16 ≡ 15 → ⊥
no_arm h e = omega arith
