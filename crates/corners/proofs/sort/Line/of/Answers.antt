-- `Line::of`: a channel that is marked is put in its place.
use native.Mathlib.Omega.{arith}
use mathlib.Core.Path.{sym, subst}
use Prim.Native.Nat.{ℕ, ◌+◌}
use Rattle.corners.specs.Axes.{place_among, index_at}
use Rattle.corners.specs.SpeakerOrder.{is_marked, InLine}
use Rattle.corners.proofs.Rising.{passed}
use Rattle.corners.proofs.Lined.{line_in, fine_marked, away_marked}
use Rattle.corners.proofs.sort.Line.of.Goals as goal

pub loop-k-preserved : goal.loop-k-preserved
loop-k-preserved c =
    let p = c.args.marked.now in
    let k = c.loop-k.k in
    let t = passed c.if-not-here.false in
    subst (λ (n : ℕ). InLine (place_among c.args.places.now) (is_marked p) (k + 1) n (index_at c.insert.new.self.channels)) (sym c.insert.ensures.more)
    (line_in c.loop-k.invariant c.insert.ensures.at t (λ j q. fine_marked p c.requires j (omega arith)) (away_marked p c.requires k c.loop-k-test.true t))
