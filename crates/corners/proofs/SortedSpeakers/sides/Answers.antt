-- `SortedSpeakers::sides`: where the walk stops, the two sides are found.
use native.Mathlib.Nat.{le_antisymm}
use mathlib.Core.Path.{◌≡◌, refl, subst}
use mathlib.Core.Logic.{inl}
use mathlib.Core.Bool.{Bool, true, false, not}
use lib.Dec.{T}
use lib.Ieee.{binary32, fits, ne}
use borrow.Author.Rules.{rules}
use Rattle.corners.proofs.Rising.{passed}
use Rattle.corners.proofs.Stops.{level_at, sides_at, row_passed}
use Rattle.corners.proofs.SortedSpeakers.sides.Goals as goal
use Rattle.corners.proofs.SortedSpeakers.sides.Goals.{else-stop-b-via-then-stop-b+else-self-stop, else-stop-b-via-else-stop-b}

level : (b : Bool) → not b ≡ false → T b
level true e = tt
level false e = subst T e tt

pub returns-then-self-stop : goal.returns-then-self-stop
unfolding ne
returns-then-self-stop c =
    let s = c.walk-stop.ensures in
    let w : T (fits binary32 c.args.v) = search (rules, c.well_formed) in
    sides_at w c.requires.0 c.requires.1 s.walked s.stop (inl (c.if-stop-b.true, refl)) (λ i. refl) (passed c.if-self-stop.true)

pub returns-else-stop-b : goal.returns-else-stop-b
unfolding ne
returns-else-stop-b c =
    let s = c.walk-stop.ensures in
    let w : T (fits binary32 c.args.v) = search (rules, c.well_formed) in
    elim c.else-stop-b.branch [
      | else-stop-b-via-then-stop-b+else-self-stop b ↦ level_at w c.requires.0 c.requires.1 s.walked s.stop (inl (b.if-stop-b.true, refl)) (λ i. refl) (level _ b.if-self-stop.false)
      | else-stop-b-via-else-stop-b b ↦ row_passed w c.requires.0 c.requires.1 s.walked s.stop (le_antisymm s.walked.to b.if-stop-b.false) (λ i. refl)
    ]
