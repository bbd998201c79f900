-- `panning::table::stands_alone` meets its contract. Assumes nothing.
use mathlib.Core.Path.{sym, ◌∙◌}
use native.Mathlib.Omega.{arith}
use Rattle.corners.specs.Axes.{place_among}
use Rattle.panning.proofs.Judged.{alone_start, not_alone, alone_on, alone_bass, alone_end}
use Rattle.panning.proofs.table.stands_alone.Goals.{else-j-ne-BASS-via-then-j-ne-BASS+else-alike, else-j-ne-BASS-via-else-j-ne-BASS}
use Rattle.panning.proofs.table.stands_alone.Goals as goal

pub loop-j-init : goal.loop-j-init
loop-j-init c = alone_start (place_among c.args.places.now) c.args.k

pub returns-then-alike : goal.returns-then-alike
returns-then-alike c =
    not_alone (place_among c.args.places.now) c.args.k c.loop-j.j c.loop-j.auto.j c.loop-j-test.true c.if-j-ne-BASS.true c.loop-j.invariant (sym c.alike.ensures ∙ c.if-alike.true)

pub loop-j-preserved : goal.loop-j-preserved
loop-j-preserved c =
    let sp = place_among c.args.places.now in
    let k = c.args.k in
    let j = c.loop-j.j in
    elim c.else-j-ne-BASS.branch [
      | else-j-ne-BASS-via-then-j-ne-BASS+else-alike w ↦
          alone_on sp k j c.loop-j.auto.j c.loop-j-test.true w.if-j-ne-BASS.true c.loop-j.invariant (sym w.alike.ensures ∙ w.if-alike.false)
      | else-j-ne-BASS-via-else-j-ne-BASS w ↦ alone_bass sp k j w.if-j-ne-BASS.false c.loop-j.invariant
    ]

pub returns : goal.returns
returns c =
    let l = c.loop-j-test.false in
    let k = c.requires in
    alone_end (place_among c.args.places.now) c.args.k c.loop-j.j (omega (arith, l)) (c.loop-j.auto.j-end (omega (arith, k))) c.loop-j.invariant
