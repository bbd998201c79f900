-- `mix_corners`: one corner more, and all of them.
use borrow.Author.Rules.{rules}
use Rattle.render.proofs.MixedTerms.{corner_step, corners_done}
use Rattle.render.proofs.terms.Samples.mix_corners.Goals as goal

pub loop-j-preserved : goal.loop-j-preserved
loop-j-preserved c =
    let p = c.args.p.now in
    let l = c.loop-j in
    corner_step c.args.self.list.now l.j p.corners p.coefficients l.rows (search rules) (search rules) c.mix_term.ensures l.invariant

pub returns : goal.returns
returns c =
    let p = c.args.p.now in
    let l = c.loop-j in
    corners_done c.args.self.list.now l.j p.corners p.coefficients l.rows (search rules) l.invariant
