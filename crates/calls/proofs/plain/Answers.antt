-- A flush or a reset, each by the contract of its entry. Assumes nothing.
use mathlib.Core.Path.{sym, ap, subst, ◌∙◌}
use Rattle.framing.specs.declared.request.Plain.{Plain}
use Rattle.rules.specs.Calls.{flush, reset}
use Rattle.rules.specs.BlockCalls.{made}
use Rattle.theorem.specs.Instance.{hall, block}
use Rattle.hall.specs.Answers.{coded}
use Rattle.hall.specs.declared.answer.Answer.{Answer}
use Rattle.calls.specs.Asked.{asked_alone}
use Rattle.calls.specs.CallResults.{text_of_code, Called}
use Rattle.calls.proofs.Calling.{code_text}
use Rattle.calls.proofs.plain.Goals as goal
use Rattle.calls.proofs.plain.Goals.{in-Flush, in-Reset}

pub returns : goal.returns
returns c =
    let out = c.match-call.out in
    let As : Plain → Type 0 = λ p. Called (asked_alone p c.args.out.now) c.args.state.now c.args.out.now c.match-call.state out c.tell.new.text in
    elim c.match-call.branch [
      | in-Flush w ↦ subst As (sym w.in-Flush.is) (record {
        block = w.state-is ∙ w.flush-answer.ensures.block;
        output = w.out-is ∙ w.flush-answer.ensures.output;
        said = c.tell.ensures ∙ ap (λ (a : Answer). text_of_code a out) (ap coded w.answer-is ∙ w.flush-answer.ensures.answer)
            ∙ code_text (made hall block (flush c.args.out.now 256) c.args.state.now).answer out;
      })
      | in-Reset w ↦ subst As (sym w.in-Reset.is) (record {
        block = w.state-is ∙ w.reset-answer.ensures.left.block;
        output = w.out-is;
        said = c.tell.ensures ∙ ap (λ (a : Answer). text_of_code a out) (ap coded w.answer-is ∙ w.reset-answer.ensures.left.answer)
            ∙ code_text (made hall block reset c.args.state.now).answer out;
      })
    ]
