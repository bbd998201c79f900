-- `read_channel`: the samples of the channel are there, and none is a NaN.
use native.Mathlib.Omega.{arith}
use lib.Seq.{length-take-le}
use Rattle.render.proofs.ChannelRows.{reached}
use Rattle.render.proofs.Input.read_channel.Goals as goal

pub read_row-requires : goal.read_row-requires
read_row-requires c =
    let a = c.args in
    let p = reached a.self.pcm.now a.self.span a.i _ a.self.framed c.requires in
    let n = a.self.span.short in
    rw (length-take-le a.self.span.count a.row.now (omega (arith, c.told-row))) (record { row_in_bounds = p.room; plain = p.plain })
