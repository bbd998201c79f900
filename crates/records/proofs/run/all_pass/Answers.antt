-- `records::run::all_pass`. Invariant: whatever the test tells of, each record passed has it. Assumes nothing.
use Rattle.std.proofs.Common.{refl, sym, ◌∙◌, arith}
use Rattle.fields.proofs.All.{all_none, all_more, all_fails, all_passed}
use Rattle.records.proofs.run.all_pass.Goals as goal

pub loop-k-init : goal.loop-k-init
loop-k-init g c p tells = all_none _

pub returns-then-not-test : goal.returns-then-not-test
returns-then-not-test g c p tells = sym (all_fails _ _ _ (omega arith) (sym (tells _ _ refl c.test.ensures) ∙ c.if-not-test.true))

pub loop-k-preserved : goal.loop-k-preserved
loop-k-preserved g c p tells = all_more _ _ (c.loop-k.invariant p tells) (sym (tells _ _ refl c.test.ensures) ∙ c.if-not-test.false)

pub returns : goal.returns
returns g c p tells = sym (all_passed _ _ _ (omega arith) (omega arith) (c.loop-k.invariant p tells))
