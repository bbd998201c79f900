-- `mix_listed`: lists that were made, or that fitted before, fit; a list is fed by the inputs, its sums fill the row, and twelve rows of sums are what is heard.
use mathlib.Core.Path.{sym, ap, subst, ◌∙◌}
use mathlib.Core.List.{List, map}
use Prim.Native.Nat.{ℕ, ◌+◌}
use native.Mathlib.Omega.{arith}
use lib.ListN.{length, length-map}
use lib.Ieee.{Float}
use Rattle.panning.specs.Hall.{setup_of}
use Rattle.rules.specs.Leaves.{Source, Bed}
use Rattle.render.specs.declared.lists.Fed.{Fed}
use Rattle.render.specs.declared.Run.{Run}
use Rattle.render.specs.Run.{zipped, plain_source}
use Rattle.render.specs.Listed.{run_listed, FedBy, sums_at}
use Rattle.render.proofs.FilledRows.{Filled, filled_none, lent, filled_more}
use Rattle.render.proofs.ListedHeard.{listed_heard}
use Rattle.render.proofs.ListedFed.{listed_fed}
use Rattle.render.proofs.Run.mix_listed.Goals as goal
use Rattle.render.proofs.Run.mix_listed.Goals.{then-lists, else-lists}

-- ---- a run's beds and objects, its terms on channel k, and the sums of terms at its samples

abbrev beds_in : Run → List Bed
beds_in r = zipped r.scene.codes.now r.scene.gains.now

abbrev objects_in : Run → List Source
objects_in r = map plain_source r.scene.sources.now

abbrev terms : Run → ℕ → List Fed
terms r k = run_listed (setup_of r.scene.hall.now) r.input.codes.list.now (beds_in r) (objects_in r) k

abbrev sums : Run → List Fed → List Float
sums r fs = sums_at r.input.pcm.now r.input.span.frame fs r.input.span.first r.input.span.count

-- ---- the lists are made, or are those that were lent; the rows are silent

pub loop-c-init : goal.loop-c-init
loop-c-init c =
    let r = c.args.self in
    let n = r.input.span.count in
    record {
      fits = elim c.if-lists.branch [ then-lists w ↦ rw w.lists-is w.list.ensures | else-lists w ↦ rw w.lists-is c.requires.1 ];
      filled = subst (Filled (λ k. sums r (terms r k)) n 0) (sym c.requires.0) (filled_none (λ k. sums r (terms r k)) n);
    }

-- ---- the loop over the rows

pub sum_row-requires : goal.sum_row-requires
sum_row-requires c =
    let r = c.args.self in
    let i = r.input in
    let k = c.loop-c.c in
    let here = c.loop-c-test.true in
    let list = c.of.ensures ∙ c.loop-c.invariant.fits.lists c.if-lists-2.false k here in
    let few = length-map r.scene.sources.now plain_source in
    let fed = listed_fed (setup_of r.scene.hall.now) i.codes.list.now (beds_in r) (objects_in r) i.objects k (omega (arith, few, r.fed)) in
    (subst (FedBy (length i.codes.list.now + i.objects)) (sym list) fed, lent (λ j. sums r (terms r j)) i.span.count k c.loop-c.rows i.span.short here c.loop-c.invariant.filled)

pub loop-c-preserved : goal.loop-c-preserved
loop-c-preserved c =
    let r = c.args.self in
    let s = r.input.span in
    let k = c.loop-c.c in
    let here = c.loop-c-test.true in
    let list = c.of.ensures ∙ c.loop-c.invariant.fits.lists c.if-lists-2.false k here in
    let row = c.sum_row.ensures ∙ ap (sums r) list in
    record {
      fits = c.loop-c.invariant.fits;
      filled = filled_more (λ j. sums r (terms r j)) s.count k c.loop-c.rows s.short here c.loop-c.invariant.filled c.sum_row.new.row row (omega arith);
    }

-- ---- the end

pub returns-clause-heard : goal.returns-clause-heard
returns-clause-heard c =
    let r = c.args.self in
    let i = r.input in
    let heard = listed_heard (setup_of r.scene.hall.now) (beds_in r) (objects_in r) i.codes.list.now i.pcm.now i.span.frame in
    λ _. heard i.span.first i.span.count c.loop-c.c c.loop-c.rows (omega arith) c.loop-c.invariant.filled
