-- `row_passes`: one sample more. Assumes nothing.
use Rattle.std.proofs.Common.{arith}
use Rattle.pcm24.proofs.Passes.{none, pass_step}
use Rattle.pcm24.proofs.judge.row_passes.Goals as goal

pub loop-i-init : goal.loop-i-init
loop-i-init c = none c.args.out.now c.args.at

pub loop-i-preserved : goal.loop-i-preserved
loop-i-preserved c = pass_step c.args.out.now c.args.at c.loop-i.i c.u32_at.result c.loop-i.invariant (omega arith) c.u32_at.ensures
