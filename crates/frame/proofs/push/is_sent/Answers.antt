-- `is_sent`: by the first update sent for the offset. Assumes nothing.
use Prim.Native.Nat.{ℕ}
use mathlib.Core.Path.{◌≡◌, refl}
use mathlib.Core.Bool.{Bool, true, false, cond}
use native.Mathlib.Omega.{arith}
use borrow.Author.Tests.{ltb-true, ltb-false}
use lib.Dec.{ltb}
use Rattle.records.specs.UpdateWalk.{FirstAt}
use Rattle.records.specs.LayoutAnswers.{offset_at}
use Rattle.rendering.proofs.Theorems.{past}
use Rattle.frame.proofs.push.is_sent.Goals as goal

sent : (f : ℕ → ℕ) (n t i : ℕ) (b : Bool) → ltb i n ≡ b → FirstAt f n t 0 i → cond b (FirstAt f n t 0 n → ⊥) (FirstAt f n t 0 n)
sent f n t i true e h = λ g. let l = ltb-true i n e in g.none i (omega arith) l (h.here l)
sent f n t i false e h = past h (ltb-false i n e)

pub returns : goal.returns
returns c = let a = c.args in sent (offset_at a.l.now) a.l.now.count a.t.0 c.sent_at.result _ refl c.sent_at.ensures
