-- `mix_add_scaled`: one more sample is mixed in.
use Rattle.std.proofs.Common.{arith}
use Rattle.mixing.proofs.Mixed.{mixed_step}
use Rattle.mixing.proofs.mix_add_scaled.Goals as goal

pub loop-k-preserved : goal.loop-k-preserved
loop-k-preserved c =
    rw c.loop-k.invariant (mixed_step c.loop-k.k c.args.input.now c.args.gain c.args.output.now (omega arith) (omega arith))
