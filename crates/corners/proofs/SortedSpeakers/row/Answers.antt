-- `SortedSpeakers::row`: both sides are places of the row.
use native.Mathlib.Omega.{arith}
use mathlib.Core.Bool.{true, false}
use Rattle.corners.proofs.SortedSpeakers.row.Goals as goal

pub channel-requires : goal.channel-requires
channel-requires c = omega (arith, c.sides-sides.ensures.to false, c.requires.few)

pub channel-requires-2 : goal.channel-requires-2
channel-requires-2 c = omega (arith, c.sides-sides.ensures.to true, c.requires.few)
