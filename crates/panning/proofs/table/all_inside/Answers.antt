-- `panning::table::all_inside` meets its contract. Assumes nothing.
use mathlib.Core.Path.{sym, ◌∙◌}
use native.Mathlib.Omega.{arith}
use Rattle.corners.specs.Axes.{place_among}
use Rattle.panning.proofs.Judged.{inside_start, not_inside, inside_on, inside_end}
use Rattle.panning.proofs.table.all_inside.Goals as goal

pub loop-k-init : goal.loop-k-init
loop-k-init c = inside_start (place_among c.args.places.now)

pub returns-then-not-placed_inside : goal.returns-then-not-placed_inside
returns-then-not-placed_inside c =
    not_inside (place_among c.args.places.now) c.loop-k.k c.loop-k-test.true c.loop-k.invariant (sym c.placed_inside.ensures ∙ c.if-not-placed_inside.true)

pub loop-k-preserved : goal.loop-k-preserved
loop-k-preserved c =
    inside_on (place_among c.args.places.now) c.loop-k.k c.loop-k-test.true c.loop-k.invariant (sym c.placed_inside.ensures ∙ c.if-not-placed_inside.false)

pub returns : goal.returns
returns c = let l = c.loop-k-test.false in inside_end (place_among c.args.places.now) c.loop-k.k (omega (arith, l)) c.loop-k.auto.k-end c.loop-k.invariant
