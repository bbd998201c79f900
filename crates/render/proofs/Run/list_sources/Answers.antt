-- `list_sources`: one object more.
use native.Mathlib.Omega.{arith}
use lib.ListN.{length}
use Rattle.panning.specs.Hall.{setup_of}
use Rattle.render.proofs.ListedInOrder.{object_listed}
use Rattle.render.proofs.Run.list_sources.Goals as goal

pub loop-j-preserved : goal.loop-j-preserved
loop-j-preserved c =
    let r = c.args.self in
    let l = c.loop-j in
    object_listed (setup_of r.scene.hall.now) (length r.input.codes.list.now) r.scene.sources.now l.j _ (omega arith) c.put_source.ensures l.invariant
