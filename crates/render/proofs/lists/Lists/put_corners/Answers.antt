-- `put_corners`: one corner more, and all of them.
use borrow.Author.Rules.{rules}
use Rattle.render.proofs.PutTerms.{put_corner, corners_done}
use Rattle.render.proofs.lists.Lists.put_corners.Goals as goal

pub loop-j-preserved : goal.loop-j-preserved
loop-j-preserved c =
    let p = c.args.p.now in
    let l = c.loop-j in
    put_corner c.args.input p.corners p.coefficients l.j (search rules) (search rules) c.put.ensures l.invariant

pub returns : goal.returns
returns c =
    let p = c.args.p.now in
    let l = c.loop-j in
    corners_done c.args.input p.corners p.coefficients l.j (search rules) l.invariant
