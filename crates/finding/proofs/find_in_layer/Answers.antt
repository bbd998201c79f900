-- `finding::find_in_layer` meets its contract. Assumes nothing.
use mathlib.Core.Path.{sym, ap, ◌∙◌}
use native.Mathlib.Omega.{arith}
use lib.Ieee.{Float}
use Rattle.panning.specs.Hall.{setup_of}
use Rattle.finding.specs.Grid.{across_at, across_count}
use Rattle.finding.specs.Search.{in_row}
use Rattle.finding.proofs.Walks.{there, further, nowhere}
use Rattle.finding.proofs.find_in_layer.Goals as goal

pub returns-in-Some : goal.returns-in-Some
returns-in-Some c =
    let a = c.args in
    there (λ k. in_row (setup_of a.hall.now) a.mask a.y (across_at k)) across_count c.loop-k.k c.loop-k-test.true c.loop-k.invariant
    (ap (λ (z : Float). in_row (setup_of a.hall.now) a.mask a.y z) (sym c.across_at.ensures) ∙ sym c.find_in_row.ensures ∙ c.in-Some.is)

pub loop-k-preserved : goal.loop-k-preserved
loop-k-preserved c =
    let a = c.args in
    further (λ k. in_row (setup_of a.hall.now) a.mask a.y (across_at k)) across_count c.loop-k.k c.loop-k-test.true c.loop-k.invariant
    (ap (λ (z : Float). in_row (setup_of a.hall.now) a.mask a.y z) (sym c.across_at.ensures) ∙ sym c.find_in_row.ensures ∙ c.in_default.is)

pub returns : goal.returns
returns c =
    let a = c.args in
    let l = c.loop-k-test.false in
    nowhere (λ k. in_row (setup_of a.hall.now) a.mask a.y (across_at k)) across_count c.loop-k.k (omega (arith, l)) c.loop-k.invariant
