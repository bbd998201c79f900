-- `mix_corners`: what is left to mix from corner j on still gives the whole.
use mathlib.Core.Path.{◌≡◌}
use lib.ListN.{drop}
use Rattle.panning.specs.Terms.{paired}
use Rattle.render.specs.MixedRows.{mixed_terms}
use Rattle.render.proofs.terms.Samples.mix_corners.Given as goal

abbrev pub invariant-loop-j : goal.invariant-loop-j
invariant-loop-j l =
    (mixed_terms l.self.list.now (paired (drop l.j l.p.corners) (drop l.j l.p.coefficients)) l.rows
    ≡ mixed_terms l.self.list.now (paired l.p.corners l.p.coefficients) l.initial.rows)
