-- `records::layout::layout_of`: the walk from update to update. Assumes nothing.
use mathlib.Core.Path.{sym, ◌∙◌}
use native.Mathlib.Omega.{arith}
use Rattle.records.proofs.Ends.{end_whole, end_at}
use Rattle.records.proofs.Walked.{walk_begins, walk_goes_on, walk_ends}
use Rattle.records.proofs.layout.layout_of.Goals as goal

pub loop-place-init : goal.loop-place-init
loop-place-init c = walk_begins _ _

pub loop-place-preserved : goal.loop-place-preserved
loop-place-preserved c =
    let e = sym c.update_end.ensures ∙ c.in_ok-next.was in
    walk_goes_on _ _ _ _ _ _ _ c.if-meta-ne0.false c.loop-place.invariant (omega arith) (end_whole _ _ _ e) (end_at _ _ _ e) c.offset_in-offset.ensures

pub returns : goal.returns
returns c = walk_ends _ _ _ _ _ c.if-meta-ne0.false c.loop-place.invariant c.loop-place-test.false _
