-- The length of a turn. Assumes nothing.
use Prim.Native.Nat.{ℕ, ◌+◌, ◌-◌, ◌≤◌, ◌<◌}
use native.Mathlib.Omega.{arith}
use mathlib.Core.Path.{◌≡◌, ap, ◌∙◌}
use mathlib.Core.Bool.{Bool, true, false}
use Rattle.frame.specs.Loop.{run_length}
use Rattle.std.specs.Prelude.{min}

-- ---- the length of a turn

pub run_started : (b : Bool) (phase pending left room k : ℕ) → b ≡ true → room ≡ min (64 - pending) left → k ≡ min (64 - phase) room → k ≡ run_length b phase pending left
run_started true phase pending left room k e h i = i ∙ ap (λ (x : ℕ). min (64 - phase) x) h
run_started false phase pending left room k e h i = let z : ◌≡◌ {A = ℕ} 0 1 = cc in absurd (omega arith)

pub run_silent : (b : Bool) (phase pending left room : ℕ) → b ≡ false → room ≡ min (64 - pending) left → room ≡ run_length b phase pending left
run_silent true phase pending left room e h = let z : ◌≡◌ {A = ℕ} 0 1 = cc in absurd (omega arith)
run_silent false phase pending left room e h = h

-- a turn takes at least a sample, and ends no later than the block, the slot where the clock runs, and the samples that are left
pub record RunLength (started : Bool) (phase pending left k : ℕ) : Type 0 where
  pub some : 0 < k
  pub within : k ≤ left
  pub room : pending + k ≤ 64
  pub slot : started ≡ true → phase + k ≤ 64

least_some : (a b : ℕ) → 0 < a → 0 < b → (0 < min a b) × (min a b ≤ a) × (min a b ≤ b)
least_some a b h k = (omega arith, omega arith, omega arith)

pub run_length_is : (b : Bool) (phase pending left : ℕ) → phase < 64 → pending < 64 → 0 < left → RunLength b phase pending left (run_length b phase pending left)
run_length_is true phase pending left p q l =
    let x = least_some (64 - pending) left (omega arith) l in
    let y = least_some (64 - phase) (min (64 - pending) left) (omega arith) x.0 in
    bounds phase pending left (min (64 - pending) left) (min (64 - phase) (min (64 - pending) left)) p q x y
  where
    bounds : (phase pending left m k : ℕ) → phase < 64 → pending < 64 → (0 < m) × (m ≤ 64 - pending) × (m ≤ left) → (0 < k) × (k ≤ 64 - phase) × (k ≤ m)
        → RunLength true phase pending left k
    bounds phase pending left m k p q x y =
        let a = x.1 in
        let b = x.2 in
        let c = y.1 in
        let d = y.2 in
        record { some = y.0; within = omega arith; room = omega arith; slot = λ e. omega arith }
run_length_is false phase pending left p q l =
    bounds phase pending left (min (64 - pending) left) q (least_some (64 - pending) left (omega arith) l)
  where
    bounds : (phase pending left k : ℕ) → pending < 64 → (0 < k) × (k ≤ 64 - pending) × (k ≤ left) → RunLength false phase pending left k
    bounds phase pending left k q x =
        let a = x.1 in
        record { some = x.0; within = x.2; room = omega arith; slot = λ e. let z : ◌≡◌ {A = ℕ} 0 1 = cc in absurd (omega arith) }
