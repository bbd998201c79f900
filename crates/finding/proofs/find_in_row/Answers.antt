-- `finding::find_in_row` meets its contract. Assumes nothing.
use mathlib.Core.Path.{sym, ap, ◌∙◌}
use native.Mathlib.Omega.{arith}
use lib.Ieee.{Float, of_bits}
use borrow.Author.Rules.{rules}
use Rattle.vectors.specs.declared.Vec3.{Vec3}
use Rattle.corners.specs.Table.{Position}
use Rattle.panning.specs.Setup.{Setup}
use Rattle.panning.specs.Hall.{setup_of}
use Rattle.finding.specs.Grid.{across_at, across_count}
use Rattle.finding.specs.Search.{exactly}
use Rattle.finding.proofs.Masks.{mask_is}
use Rattle.finding.proofs.Halls.{fits}
use Rattle.finding.proofs.Walks.{there, further, nowhere, exact, other}
use Rattle.finding.proofs.find_in_row.Goals as goal

pub returns-then-sounding-mask : goal.returns-then-sounding-mask
unfolding of_bits
returns-then-sounding-mask c =
    let a = c.args in
    let h : Setup = setup_of a.hall.now in
    let p : Vec3 = record { x = c.across_at.result; y = a.y; z = a.z } in
    let q : Position p = record { x = search rules; y = search (rules, c.well_formed); z = search (rules, c.well_formed) } in
    there (λ i. exactly h a.mask (record { x = across_at i; y = a.y; z = a.z })) across_count c.loop-i.i c.loop-i-test.true c.loop-i.invariant
    (ap (λ (x : Float). exactly h a.mask (record { x = x; y = a.y; z = a.z })) (sym c.across_at.ensures)
    ∙ exact h a.mask p (sym (mask_is h (fits a.hall.now) p q) ∙ sym c.sounding.ensures ∙ c.if-sounding-mask.true))

pub loop-i-preserved : goal.loop-i-preserved
unfolding of_bits
loop-i-preserved c =
    let a = c.args in
    let h : Setup = setup_of a.hall.now in
    let p : Vec3 = record { x = c.across_at.result; y = a.y; z = a.z } in
    let q : Position p = record { x = search rules; y = search (rules, c.well_formed); z = search (rules, c.well_formed) } in
    further (λ i. exactly h a.mask (record { x = across_at i; y = a.y; z = a.z })) across_count c.loop-i.i c.loop-i-test.true c.loop-i.invariant
    (ap (λ (x : Float). exactly h a.mask (record { x = x; y = a.y; z = a.z })) (sym c.across_at.ensures)
    ∙ other h a.mask p (λ e. c.if-sounding-mask.false (c.sounding.ensures ∙ mask_is h (fits a.hall.now) p q ∙ e)))

pub returns : goal.returns
returns c =
    let a = c.args in
    let l = c.loop-i-test.false in
    nowhere (λ i. exactly (setup_of a.hall.now) a.mask (record { x = across_at i; y = a.y; z = a.z })) across_count c.loop-i.i (omega (arith, l)) c.loop-i.invariant
