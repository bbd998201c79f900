-- A reader may skip this file: what a call leaves, with the text of its answer. Assumes nothing.
use Rattle.std.specs.Prelude.{ℕ, ◌≡◌, cond, List, eqb}
use Rattle.rules.specs.Calls.{Call}
use Rattle.rules.specs.BlockCalls.{made}
use Rattle.theorem.specs.Instance.{hall, block}
use Rattle.hall.specs.declared.answer.Answer.{Answer}
use Rattle.listing.specs.Text.{ready_text, refused_text, none_text, reset_text}
use Rattle.calls.specs.AnswerText.{text_of}
use Rattle.calls.specs.Asked.{out_after}

-- the text of an entry's answer
unfoldable pub text_of_code : Answer → List ℕ → List ℕ
text_of_code a out =
    cond (eqb a.kind 0) (ready_text a.ready out)
    (cond (eqb a.kind 1) (refused_text a.number a.first a.second)
    (cond (eqb a.kind 2) none_text reset_text))

-- the text of a call's answer, where the call left `out`
abbrev pub text_after : Call → List ℕ → List ℕ → List ℕ
text_after c b out = text_of (made hall block c b).answer out

-- the block b and the output o became these by one call, and `text` is the text of its answer
pub record Called (c : Call) (b o state out text : List ℕ) : Type 0 where
  pub block : state ≡ (made hall block c b).state
  pub output : out ≡ out_after c b o
  pub said : text ≡ text_after c b out
