-- `mix_beds`: one bed more.
use native.Mathlib.Omega.{arith}
use Rattle.panning.specs.Hall.{setup_of}
use Rattle.render.proofs.MixedInOrder.{bed_step}
use Rattle.render.proofs.Run.mix_beds.Goals as goal

pub loop-j-preserved : goal.loop-j-preserved
loop-j-preserved c =
    let i = c.args.self.input in
    let s = c.args.self.scene in
    let l = c.loop-j in
    bed_step (setup_of s.hall.now) i.pcm.now i.span i.codes.list.now l.j s.codes.now s.gains.now l.rows (omega arith) (omega (arith, s.paired)) c.mix_bed.ensures l.invariant
