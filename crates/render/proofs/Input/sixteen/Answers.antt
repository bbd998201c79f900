-- `sixteen`: the samples are there, and none is a NaN. Assumes nothing.
use Rattle.render.proofs.StripSamples.{strip_stands}
use Rattle.render.proofs.Input.sixteen.Goals as goal

pub sixteen_at-requires : goal.sixteen_at-requires
sixteen_at-requires c =
    let a = c.args in
    let s = strip_stands a.self.pcm.now a.self.span _ a.self.framed a.i 16 a.input c.start.result c.requires.0 c.requires.1 c.start.ensures in
    record { room = s.room; plain = s.plain }
