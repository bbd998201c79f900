-- `limiter::raise` meets its contract. Assumes nothing.
use mathlib.Core.Path.{sym, subst}
use lib.Dec.{T}
use lib.Ieee.{binary32, fits}
use Rattle.limiter.proofs.Levels.{raise_taken, raised_by}
use Rattle.limiter.proofs.raise.Goals as goal
use Rattle.limiter.proofs.raise.Goals.{Start}

fit : (c : Start) → T (fits binary32 c.args.sample)
fit c = subst T (sym c.well_formed.1.0.1) tt

pub returns-then-max-size : goal.returns-then-max-size
returns-then-max-size c =
    let a = c.args in
    let p = c.requires in
    let e = raise_taken a.max a.sample c.abs-size.result p c.abs-size.ensures c.if-max-size.true in
    (e, (raised_by a.max a.sample c.abs-size.result p (fit (goal.at.returns-then-max-size c).Start) e).level)
