-- `later::check_both`: 11 for those that wait, then for the frame's own.
use mathlib.Core.Path.{◌∙◌}
use Rattle.rules.specs.Refusals.{counts_at}
use Rattle.refusals.specs.PresentShape.{told_by}
use Rattle.refusals.proofs.First.{handed_on, chain_stops, chain_passes}
use Rattle.refusals.proofs.Sent.{counts_both}
use Rattle.refusals.proofs.later.check_both.Goals as goal

pub returns-in_err-check_counts : goal.returns-in_err-check_counts
returns-in_err-check_counts c us codes =
    let a = c.args in
    let n = a.frame.n.objects in
    let xs = told_by a.kept.now in
    let ys = told_by a.frame.metadata in
    handed_on _ _ c.from_residual.ensures.1
    (chain_stops (counts_at us n codes a.t.0 xs) (counts_at us n codes a.t.0 ys) _ (counts_both us n codes a.t.0 xs ys) c.in_err-check_counts.field-0.0
    (c.in_err-check_counts.ensures.is us codes))

pub returns : goal.returns
returns c us codes =
    let a = c.args in
    let n = a.frame.n.objects in
    let xs = told_by a.kept.now in
    let ys = told_by a.frame.metadata in
    c.check_counts-2.ensures.is us codes
    ∙ chain_passes (counts_at us n codes a.t.0 xs) (counts_at us n codes a.t.0 ys) _ (counts_both us n codes a.t.0 xs ys) (c.in_ok-check_counts.ensures.is us codes)
