-- `SortedSpeakers::of`: the sorted channels, their places, and the ends of their runs.
use Rattle.corners.proofs.Making.{layer_below, made}
use Rattle.corners.proofs.SortedSpeakers.of.Goals as goal

pub run_ends-rows-requires : goal.run_ends-rows-requires
run_ends-rows-requires c =
    let a = c.args in
    let l = c.of-line in (
      l.ensures.few,
      layer_below a.places.now a.marked.now c.requires l.result.count l.result.channels l.ensures c.speakers-speakers.result c.speakers-speakers.ensures
          c.run_ends-layers.result c.run_ends-layers.ensures,
    )

pub returns : goal.returns
returns c =
    let a = c.args in
    let l = c.of-line in
    made a.places.now a.marked.now c.requires l.result.count l.result.channels l.ensures c.speakers-speakers.result c.speakers-speakers.ensures c.run_ends-layers.result
    c.run_ends-layers.ensures c.run_ends-rows.result c.run_ends-rows.ensures
