-- `sent_at`: none of those passed is at t. Assumes nothing.
use Prim.Native.Nat.{ℕ, ◌≤◌, ◌<◌}
use mathlib.Core.Path.{◌≡◌}
use Rattle.records.specs.LayoutAnswers.{offset_at}
use Rattle.records.proofs.sent.Layout.sent_at.Given as goal

abbrev pub invariant-loop-i : goal.invariant-loop-i
invariant-loop-i l = (k : ℕ) → l.from ≤ k → k < l.i → offset_at l.self k ≡ l.t.0 → ⊥
