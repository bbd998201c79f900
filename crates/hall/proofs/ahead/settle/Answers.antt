-- `ahead::settle`: where nothing waits and nothing comes that does, the area stays.
use mathlib.Core.Path.{sym, ◌∙◌}
use borrow.Author.Tests.{eqb-true}
use Rattle.waits.proofs.Theorems.{settled_none}
use Rattle.hall.proofs.Quiet.{no_own}
use Rattle.hall.proofs.ahead.settle.Goals as goal

pub returns-else-any_waits : goal.returns-else-any_waits
returns-else-any_waits c =
    let a = c.args in
    sym (settled_none a.start.0 a.end.0 a.area.now a.own.now.records.now (eqb-true _ _ (sym c.is_empty.ensures ∙ c.if-not-is_empty.false))
    (no_own a.end.0 a.own.now c.requires.2 (sym c.any_waits.ensures ∙ c.if-any_waits.false))
    c.told-area c.fits-area c.requires.0)
