-- `mix_sources`: what is left to mix from object j on still gives the whole.
use mathlib.Core.Path.{◌≡◌}
use mathlib.Core.List.{map}
use Prim.Native.Nat.{◌+◌}
use lib.ListN.{length, drop}
use Rattle.panning.specs.Hall.{setup_of}
use Rattle.render.specs.Run.{plain_source}
use Rattle.render.specs.MixedSources.{mixed_objects}
use Rattle.render.proofs.Run.mix_sources.Given as goal

abbrev pub invariant-loop-j : goal.invariant-loop-j
invariant-loop-j l =
    let h = setup_of l.self.scene.hall.now in
    (mixed_objects h l.self.input.pcm.now l.self.input.span (length l.self.input.codes.list.now + l.j) (map plain_source (drop l.j l.self.scene.sources.now)) l.rows
    ≡ mixed_objects h l.self.input.pcm.now l.self.input.span (length l.self.input.codes.list.now) (map plain_source l.self.scene.sources.now) l.initial.rows)
