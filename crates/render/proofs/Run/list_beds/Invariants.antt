-- `list_beds`: the beds from bed j on are left to put.
use Rattle.panning.specs.Hall.{setup_of}
use Rattle.render.specs.Run.{zipped}
use Rattle.render.specs.Listed.{beds_listed}
use Rattle.render.proofs.ListedInOrder.{beds_from}
use Rattle.render.proofs.ToPut.{ToPut}
use Rattle.render.proofs.Run.list_beds.Given as goal

abbrev pub invariant-loop-j : goal.invariant-loop-j
invariant-loop-j l =
    let s = l.self.scene in
    let h = setup_of s.hall.now in
    let codes = l.self.input.codes.list.now in
    ToPut (beds_from h codes s.codes.now s.gains.now l.j) (beds_listed h codes (zipped s.codes.now s.gains.now)) l.initial.lists l.lists
