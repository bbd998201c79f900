-- `list_sources`: the objects from object j on are left to put.
use mathlib.Core.List.{map}
use lib.ListN.{length}
use Rattle.panning.specs.Hall.{setup_of}
use Rattle.render.specs.Run.{plain_source}
use Rattle.render.specs.Listed.{objects_listed}
use Rattle.render.proofs.ListedInOrder.{objects_from}
use Rattle.render.proofs.ToPut.{ToPut}
use Rattle.render.proofs.Run.list_sources.Given as goal

abbrev pub invariant-loop-j : goal.invariant-loop-j
invariant-loop-j l =
    let h = setup_of l.self.scene.hall.now in
    let first = length l.self.input.codes.list.now in
    let ds = l.self.scene.sources.now in
    ToPut (objects_from h first ds l.j) (objects_listed h first (map plain_source ds)) l.initial.lists l.lists
