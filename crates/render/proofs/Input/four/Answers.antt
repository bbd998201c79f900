-- `four`: the samples are there, and none is a NaN. Assumes nothing.
use Rattle.render.proofs.StripSamples.{strip_stands}
use Rattle.render.proofs.Input.four.Goals as goal

pub four_at-requires : goal.four_at-requires
four_at-requires c =
    let a = c.args in
    let s = strip_stands a.self.pcm.now a.self.span _ a.self.framed a.i 4 a.input c.start.result c.requires.0 c.requires.1 c.start.ensures in
    record { room = s.room; plain = s.plain }
