-- `waits::laid::move_down`: one byte more. Assumes nothing.
use Rattle.std.proofs.Common.{ℕ, ◌+◌, List, get_or, ap, ◌∙◌, arith}
use lib.ListN.{set}
use Rattle.waits.proofs.Runs.{copied_more}
use Rattle.waits.proofs.laid.move_down.Goals as goal

pub loop-k-preserved : goal.loop-k-preserved
loop-k-preserved c =
    let a = c.args in
    let k = c.loop-k.k in
    let t = c.loop-k-test.true in
    let r = c.requires in
    ap (λ (s : List ℕ). set s (a.to + k) (get_or s (a.from + k) 0)) c.loop-k.invariant ∙ copied_more a.area.now a.to a.from k r.0 (omega (arith, t, r.1))
