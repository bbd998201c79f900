-- `mix_beds`: what is left to mix from bed j on still gives the whole.
use mathlib.Core.Path.{◌≡◌}
use lib.ListN.{drop}
use Rattle.panning.specs.Hall.{setup_of}
use Rattle.render.specs.Run.{zipped}
use Rattle.render.specs.MixedSources.{mixed_beds}
use Rattle.render.proofs.Run.mix_beds.Given as goal

abbrev pub invariant-loop-j : goal.invariant-loop-j
invariant-loop-j l =
    let h = setup_of l.self.scene.hall.now in
    (mixed_beds h l.self.input.pcm.now l.self.input.span l.self.input.codes.list.now (zipped (drop l.j l.self.scene.codes.now) (drop l.j l.self.scene.gains.now)) l.rows
    ≡ mixed_beds h l.self.input.pcm.now l.self.input.span l.self.input.codes.list.now (zipped l.self.scene.codes.now l.self.scene.gains.now) l.initial.rows)
