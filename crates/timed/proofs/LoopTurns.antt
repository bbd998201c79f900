-- Loops of n turns, as the code has them: the turns that are left lead from the value now to that at the end. Assumes nothing.
use Prim.Native.Nat.{ℕ, suc, ◌+◌, ◌-◌, ◌≤◌, ◌<◌}
use mathlib.Core.Path.{◌≡◌, sym, ◌∙◌}
use native.Mathlib.Numerals.{add-one, unary_clauses}
use native.Mathlib.Omega.{arith}
use Rattle.timed.specs.Turns.{times}

-- before turn i the value is s, before turn 0 it was s₀
pub record Leads {S : Type 0} (f : ℕ → S → S) (n : ℕ) (s₀ : S) (i : ℕ) (s : S) : Type 0 where
  pub same : times (n - i) i f s ≡ times n 0 f s₀

module _ {S : Type 0} (f : ℕ → S → S) (n i : ℕ) (s : S) where
  turn : i < n → times (n - i) i f s ≡ times (n - (i + 1)) (i + 1) f (f i s)
  unfolding times
  turn h = let e : n - i ≡ suc (n - (i + 1)) = omega arith in rw (e, add-one)

  ended : n ≤ i → times (n - i) i f s ≡ s
  unfolding times
  ended h = let e : n - i ≡ 0 = omega arith in rw e

module _ {S : Type 0} {f : ℕ → S → S} {n : ℕ} {s₀ : S} where
  pub leads : Leads f n s₀ 0 s₀
  leads = record { same = simp unary_clauses }

  -- one turn more
  pub leads_on : {i : ℕ} {s : S} → Leads f n s₀ i s → i < n → Leads f n s₀ (i + 1) (f i s)
  leads_on {i} {s} l h = record { same = sym (turn f n i s h) ∙ l.same }

  -- the same, where the code has made t of s
  pub leads_next : {i : ℕ} {s t : S} → Leads f n s₀ i s → i < n → t ≡ f i s → Leads f n s₀ (i + 1) t
  leads_next l h e = rw e (leads_on l h)

  -- the last turn is over
  pub leads_to : {i : ℕ} {s : S} → Leads f n s₀ i s → n ≤ i → s ≡ times n 0 f s₀
  leads_to {i} {s} l h = sym (ended f n i s h) ∙ l.same

-- what the goals of such a loop ask
pub ruleset turns = (leads, leads_next, leads_to)
