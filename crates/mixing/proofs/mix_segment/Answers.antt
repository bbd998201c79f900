-- `mix_segment`: the part that was lent comes back between what stands before and after it.
use Rattle.std.proofs.Common.{length}
use Rattle.mixing.specs.Mixing.{mixed_full}
use Rattle.mixing.proofs.Parts.{part_back}
use Rattle.mixing.proofs.mix_segment.Goals as goal

pub returns : goal.returns
returns c =
    part_back (mixed_full c.args.input.now c.args.gain) c.args.offset (length c.args.input.now) c.args.output.now c.mix_full_channel.new.output
    c.mix_full_channel.ensures
