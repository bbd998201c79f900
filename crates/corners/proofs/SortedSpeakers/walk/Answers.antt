-- `SortedSpeakers::walk`: one run further.
use mathlib.Core.Path.{sym, subst}
use Prim.Native.Nat.{ℕ}
use lib.Dec.{T}
use lib.Ieee.{Float, binary32, fits, le}
use borrow.Author.Rules.{rules}
use Rattle.corners.specs.Axes.{along, run_after}
use Rattle.corners.specs.EqualRuns.{Walked}
use Rattle.corners.proofs.Rising.{passed}
use Rattle.corners.proofs.Stops.{walk_step}
use Rattle.corners.proofs.SortedSpeakers.walk.Goals as goal

pub loop-i-preserved : goal.loop-i-preserved
loop-i-preserved c =
    let a = c.args in
    let h = a.self.now in
    let fits_v : T (fits binary32 a.v) = search (rules, c.well_formed) in
    let near = subst (λ (x : Float). T (le x a.v)) c.of.ensures (passed c.if-of-v.true) in
    subst (λ (x : ℕ). Walked (along a.axis h.speakers) (run_after a.axis h) a.a a.b a.v c.loop-i.i x) (sym c.run_after-i.ensures)
    (walk_step fits_v c.requires.0 c.loop-i.invariant c.loop-i-test.true near)
