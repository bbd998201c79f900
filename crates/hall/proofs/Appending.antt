-- A push that left what the rules say keeps R-4. Assumes nothing.
use Prim.Native.Nat.{ℕ}
use mathlib.Core.Path.{◌≡◌, refl, sym, ap, subst}
use mathlib.Core.Bool.{false}
use mathlib.Core.List.{List}
use native.Mathlib.Omega.{arith}
use Rattle.words.specs.Words.{Bytes}
use Rattle.rules.specs.Refusals.{Args}
use Rattle.rules.specs.Calls as rules
use Rattle.rules.specs.Calls.{push, refused, rendered, nothing, cleared, marked, place, is_refused}
use Rattle.rules.specs.BlockCalls.{made}
use Rattle.theorem.specs.Instance.{hall, block}
use Rattle.theorem.specs.Appends.{AppendsIfOpen}
use Rattle.theorem.proofs.Theorems.{appends}
use Rattle.hall.specs.Answers.{code_of, given_as, Left}
use Rattle.hall.specs.declared.answer.Answer.{Answer}
use Rattle.hall.specs.declared.answer.Given.{Given}

-- kind 0 is no refusal
not_refused : (a : rules.Answer) → (code_of a).kind ≡ 0 → is_refused a ≡ false
not_refused (refused n x y) e = absurd (omega arith)
not_refused (rendered g m) e = refl
not_refused nothing e = refl
not_refused cleared e = refl
not_refused (marked c) e = refl
not_refused (place p) e = refl

-- where something is given out, R-4
module _ (a : Args) (b : List ℕ) (h : Bytes b × Bytes a.meta) {state out : List ℕ} where
  pub appended : (g : Given) → Left (made hall block (push a) b) (given_as g) state out → AppendsIfOpen a b state
  appended g l =
      subst (AppendsIfOpen a b) (sym l.block) (appends b h.0 a h.1 (not_refused (made hall block (push a) b).answer (ap (λ (x : Answer). x.kind) (sym l.answer))))
