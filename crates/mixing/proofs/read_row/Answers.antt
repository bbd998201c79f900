-- `read_row`: one sample alone is the first of them; one more. Assumes nothing.
use Rattle.std.proofs.Common.{◌≡◌, ◌∙◌, refl, ℕ, ◌+◌, ◌*◌, arith}
use Rattle.mixing.proofs.Samples.{samples_step, samples_all}
use Rattle.mixing.proofs.read_row.Goals as goal

-- the first sample's place
first : (at : ℕ) → at + 4 * 0 ≡ at
first at = omega arith

pub returns-then-row-eq1 : goal.returns-then-row-eq1
returns-then-row-eq1 c =
    samples_step c.args.pcm.now c.args.at 0 c.args.row.now c.args.row.now c.sample_at.result (omega arith) refl (rw (first c.args.at) c.sample_at.ensures)
    ∙ samples_all c.args.pcm.now c.args.at 1 c.args.row.now (omega arith) (omega arith)

pub loop-i-preserved : goal.loop-i-preserved
loop-i-preserved c =
    samples_step c.args.pcm.now c.args.at c.loop-i.i c.args.row.now _ _ (omega arith) c.loop-i.invariant c.sample_at-in-loop-i.ensures
