-- `Run::pass`: what is heard, with the bass row filtered, is what the rules give.
use Rattle.render.specs.Run.{moments_in}
use Rattle.render.proofs.BassRow.{passed}
use Rattle.render.proofs.Run.pass.Goals as goal

pub returns-clause-passed : goal.returns-clause-passed
returns-clause-passed c =
    let r = c.args.self in
    let f = c.filter_bass in
    passed (moments_in r) c.args.filter.now r.input.span.first r.input.span.count
    c.mix.new.rows f.new.rows f.new.filter c.mix.array_long c.mix.ensures.heard r.input.span.short f.ensures.1 f.ensures.0
