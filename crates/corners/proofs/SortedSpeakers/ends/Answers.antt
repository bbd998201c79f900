-- `SortedSpeakers::ends`: where the walk stops, the two ends are found.
use native.Mathlib.Nat.{le_antisymm}
use mathlib.Core.Path.{refl}
use mathlib.Core.Logic.{inl, inr}
use lib.Dec.{T}
use lib.Ieee.{binary32, fits}
use borrow.Author.Rules.{rules}
use Rattle.corners.proofs.Stops.{ends_at}
use Rattle.corners.proofs.SortedSpeakers.ends.Goals as goal

pub returns-then-stop-b : goal.returns-then-stop-b
returns-then-stop-b c =
    let s = c.walk-stop.ensures in
    let w : T (fits binary32 c.args.v) = search (rules, c.well_formed) in
    ends_at w c.requires.0 c.requires.1 s.walked s.stop (inl (c.if-stop-b.true, refl))

pub returns-else-stop-b : goal.returns-else-stop-b
returns-else-stop-b c =
    let s = c.walk-stop.ensures in
    let w : T (fits binary32 c.args.v) = search (rules, c.well_formed) in
    ends_at w c.requires.0 c.requires.1 s.walked s.stop (inr (le_antisymm s.walked.to c.if-stop-b.false, refl))
