-- `panning::table::all_apart` meets its contract. Assumes nothing.
use mathlib.Core.Path.{sym, ◌∙◌}
use native.Mathlib.Omega.{arith}
use Rattle.corners.specs.Axes.{place_among}
use Rattle.panning.proofs.Judged.{apart_start, not_apart, apart_on, apart_bass, apart_end}
use Rattle.panning.proofs.table.all_apart.Goals.{else-k-ne-BASS-via-then-k-ne-BASS+else-not-stands_alone, else-k-ne-BASS-via-else-k-ne-BASS}
use Rattle.panning.proofs.table.all_apart.Goals as goal

pub loop-k-init : goal.loop-k-init
loop-k-init c = apart_start (place_among c.args.places.now)

pub returns-then-not-stands_alone : goal.returns-then-not-stands_alone
returns-then-not-stands_alone c =
    not_apart (place_among c.args.places.now) c.loop-k.k c.loop-k-test.true c.if-k-ne-BASS.true c.loop-k.invariant (sym c.stands_alone.ensures ∙ c.if-not-stands_alone.true)

pub loop-k-preserved : goal.loop-k-preserved
loop-k-preserved c =
    let sp = place_among c.args.places.now in
    let k = c.loop-k.k in
    elim c.else-k-ne-BASS.branch [
      | else-k-ne-BASS-via-then-k-ne-BASS+else-not-stands_alone w ↦
          apart_on sp k c.loop-k-test.true w.if-k-ne-BASS.true c.loop-k.invariant (sym w.stands_alone.ensures ∙ w.if-not-stands_alone.false)
      | else-k-ne-BASS-via-else-k-ne-BASS w ↦ apart_bass sp k w.if-k-ne-BASS.false c.loop-k.invariant
    ]

pub returns : goal.returns
returns c = let l = c.loop-k-test.false in apart_end (place_among c.args.places.now) c.loop-k.k (omega (arith, l)) c.loop-k.auto.k-end c.loop-k.invariant
