-- `gather`: all samples are put together. Assumes nothing.
use Rattle.std.proofs.Common.{zero-add, arith}
use Rattle.planes.proofs.Woven.{woven}
use Rattle.planes.proofs.bytes.gather.Goals as goal

pub returns : goal.returns
returns c =
    let done = c.loop-k.invariant in
    woven c.args.count c.args.source.now 0 c.args.count c.loop-k.dest (omega arith) (record {
      first = λ i h. rw zero-add (done.first i (omega arith));
      second = λ i h. rw zero-add (done.second i (omega arith));
      third = λ i h. rw zero-add (done.third i (omega arith));
      fourth = λ i h. rw zero-add (done.fourth i (omega arith));
    })
