-- `finding::find` meets its contract. Assumes nothing.
use mathlib.Core.Path.{sym, ap, ◌∙◌}
use native.Mathlib.Omega.{arith}
use lib.Ieee.{Float}
use Rattle.panning.specs.Hall.{setup_of}
use Rattle.finding.specs.Grid.{up_at, up_count}
use Rattle.finding.specs.Search.{in_layer, search}
use Rattle.finding.proofs.Walks.{there, further, nowhere}
use Rattle.finding.proofs.find.Goals as goal

pub returns-in-Some : goal.returns-in-Some
unfolding search
returns-in-Some c =
    let a = c.args in
    there (λ j. in_layer (setup_of a.hall.now) a.mask (up_at j)) up_count c.loop-j.j c.loop-j-test.true c.loop-j.invariant
    (ap (λ (y : Float). in_layer (setup_of a.hall.now) a.mask y) (sym c.up_at.ensures) ∙ sym c.find_in_layer.ensures ∙ c.in-Some.is)

pub loop-j-preserved : goal.loop-j-preserved
loop-j-preserved c =
    let a = c.args in
    further (λ j. in_layer (setup_of a.hall.now) a.mask (up_at j)) up_count c.loop-j.j c.loop-j-test.true c.loop-j.invariant
    (ap (λ (y : Float). in_layer (setup_of a.hall.now) a.mask y) (sym c.up_at.ensures) ∙ sym c.find_in_layer.ensures ∙ c.in_default.is)

pub returns : goal.returns
unfolding search
returns c =
    let a = c.args in
    let l = c.loop-j-test.false in
    nowhere (λ j. in_layer (setup_of a.hall.now) a.mask (up_at j)) up_count c.loop-j.j (omega (arith, l)) c.loop-j.invariant
