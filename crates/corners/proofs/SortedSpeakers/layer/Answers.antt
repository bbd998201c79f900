-- `SortedSpeakers::layer`: each end of the layer is a row of it.
use mathlib.Core.Bool.{true, false}
use Rattle.corners.proofs.WalkedCorners.{row_runs, layer_at}
use Rattle.corners.proofs.SortedSpeakers.layer.Goals as goal

pub row-requires : goal.row-requires
row-requires c = let e = c.ends-rows.ensures in row_runs c.requires _ (e.from true) (e.to true)

pub row-requires-2 : goal.row-requires-2
row-requires-2 c = let e = c.ends-rows.ensures in row_runs c.requires _ (e.from false) (e.to false)

pub returns : goal.returns
returns c = layer_at c.requires c.ends-rows.ensures c.row.ensures c.row-2.ensures
