-- A list that is not laid out has no updates. Assumes nothing.
use Prim.Native.Nat.{ℕ, zero, suc}
use mathlib.Core.Path.{◌≡◌, refl}
use mathlib.Core.Bool.{cond}
use native.Mathlib.Omega.{arith}
use borrow.Author.Tests.{lt-leb}
use lib.Dec.{leb}
use Rattle.records.specs.UpdateWalk.{FirstAt}
use Rattle.records.proofs.Theorems.{unlaid_counts}
use Rattle.probes.proofs.probe_records.probe_sent_at.Goals as goal

none_at : (f : ℕ → ℕ) (t from : ℕ) → cond (leb from 0) (FirstAt f 0 t from 0) (◌≡◌ {A = ℕ} 0 0)
none_at f t zero = record { after = omega arith; within = omega arith; here = λ h. absurd (omega (arith, h)); none = λ k a b e. absurd (omega (arith, b)) }
none_at f t (suc n) = rw (lt-leb (suc n) 0 (omega arith)) refl

pub returns-in_default-2 : goal.returns-in_default-2
returns-in_default-2 c = let a = c.args in rw (unlaid_counts a.meta.now c.in_default.ensures) (none_at _ a.t.0 a.from)
