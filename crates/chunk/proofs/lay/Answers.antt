-- `lay`: the rows behind the pending samples. Assumes nothing.
use Rattle.chunk.proofs.Laying.{fit_all, lay_laid}
use Rattle.chunk.proofs.lay.Goals as goal

pub returns : goal.returns
returns c =
    let a = c.args in
    let p = c.append_rows in
    lay_laid a.present.now c.told-present a.rows.now a.pending a.k c.requires a.state.now p.new.places (fit_all a.rows.now p.ensures.1) c.told-state p.ensures.0
