-- `waits::laid::shift`: the position stands before what is moved. Assumes nothing.
use Rattle.std.proofs.Common.{ℕ, ◌+◌, ◌*◌, List, take, drop, ap, ◌∙◌, arith}
use Rattle.words.specs.Words.{with_long}
use Rattle.waits.specs.Settled.{with_run}
use Rattle.waits.proofs.Runs.{drop_past_number}
use Rattle.waits.proofs.laid.shift.Goals as goal

pub returns-clause-laid : goal.returns-clause-laid
returns-clause-laid c =
    let a = c.args in
    let s = a.area.now in
    let at = 8 + 8 * a.at.count in
    let to = 72 + a.at.bytes in
    let r = c.requires in
    c.move_down.ensures
    ∙ ap (λ (t : List ℕ). with_run t to (take a.n (drop a.from t))) c.put_u64.ensures
    ∙ ap (λ (t : List ℕ). with_run (with_long s at a.position.0) to (take a.n t)) (drop_past_number s a.from at 8 a.position.0 (omega (arith, r.0, r.1)) (omega (arith, r.2)))
