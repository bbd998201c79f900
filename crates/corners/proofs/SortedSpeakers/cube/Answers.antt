-- `SortedSpeakers::cube`: each end of the hall is a layer of it.
use mathlib.Core.Bool.{true, false}
use Rattle.corners.proofs.WalkedCorners.{layer_runs, cube_is}
use Rattle.corners.proofs.SortedSpeakers.cube.Goals as goal

pub layer-requires : goal.layer-requires
layer-requires c = let e = c.ends-layers.ensures in layer_runs c.requires _ (e.from false) (e.to false)

pub layer-requires-2 : goal.layer-requires-2
layer-requires-2 c = let e = c.ends-layers.ensures in layer_runs c.requires _ (e.from true) (e.to true)

pub returns : goal.returns
returns c = λ sp l s. cube_is c.requires c.ends-layers.ensures c.layer.ensures c.layer-2.ensures sp l s
