-- `mix_listed`: the lists, which stay, are those of what sounds, and the rows before c hold the sums of theirs.
use mathlib.Core.List.{map}
use Rattle.panning.specs.Hall.{setup_of}
use Rattle.render.specs.Run.{zipped, plain_source}
use Rattle.render.specs.Listed.{ListsFit, run_listed, sums_at}
use Rattle.render.proofs.FilledRows.{Filled}
use Rattle.render.proofs.Run.mix_listed.Given as goal

abbrev pub invariant-loop-c : goal.invariant-loop-c
invariant-loop-c l =
    let i = l.self.input in
    let s = l.self.scene in
    let h = setup_of s.hall.now in
    let codes = i.codes.list.now in
    let beds = zipped s.codes.now s.gains.now in
    let objects = map plain_source s.sources.now in
    record {
      fits : ListsFit h codes beds objects l.lists;
      filled : Filled (λ c. sums_at i.pcm.now i.span.frame (run_listed h codes beds objects c) i.span.first i.span.count) i.span.count l.c l.rows;
    }
