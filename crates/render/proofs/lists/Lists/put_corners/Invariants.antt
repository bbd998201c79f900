-- `put_corners`: the corners from corner j on are left to put.
use Rattle.panning.specs.Terms.{paired}
use Rattle.render.proofs.FedTerms.{fed_on}
use Rattle.render.proofs.PutTerms.{corners_from}
use Rattle.render.proofs.ToPut.{ToPut}
use Rattle.render.proofs.lists.Lists.put_corners.Given as goal

abbrev pub invariant-loop-j : goal.invariant-loop-j
invariant-loop-j l =
    ToPut (λ k. fed_on l.input (corners_from l.p.corners l.p.coefficients l.j) k) (λ k. fed_on l.input (paired l.p.corners l.p.coefficients) k) l.initial.self l.self
