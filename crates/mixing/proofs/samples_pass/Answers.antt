-- `samples_pass`: one word more.
use Rattle.std.proofs.Common.{◌∙◌, ap, arith}
use Rattle.mixing.specs.FrameSamples.{passes}
use Rattle.mixing.proofs.Passes.{pass_step}
use Rattle.mixing.proofs.RefusalEight.{passes_meant}
use Rattle.mixing.proofs.samples_pass.Goals as goal

pub loop-i-preserved : goal.loop-i-preserved
loop-i-preserved c =
    pass_step c.args.pcm.now c.args.at c.loop-i.i c.loop-i.invariant (passes_meant c.u32_at.result (omega arith) ∙ ap passes c.u32_at.ensures)
