-- `waits::valid::positions_ahead`: each lies ahead, or one does not. Assumes nothing.
use Rattle.std.proofs.Common.{ℕ, ◌&&◌, leb, ltb, sym, ap, ◌∙◌, arith}
use Rattle.waits.specs.Area.{waiting_count}
use Rattle.fields.proofs.Theorems.{all_none, all_more, all_fails}
use Rattle.waits.proofs.ValidArea.{lies_ahead}
use Rattle.waits.proofs.valid.positions_ahead.Goals as goal

pub loop-i-init : goal.loop-i-init
loop-i-init c = all_none _

pub returns-then-not-lies_ahead : goal.returns-then-not-lies_ahead
returns-then-not-lies_ahead c =
    let no = sym (ap (λ (p : ℕ). leb c.args.position.0 p && ltb p 1103806595072) c.position_ahead.ensures) ∙ sym c.lies_ahead.ensures ∙ c.if-not-lies_ahead.true in
    let q = c.waiting_count-i-end.ensures in
    sym (all_fails (lies_ahead c.args.position.0 c.args.area.now) (waiting_count c.args.area.now) c.loop-i.i (omega (arith, q, c.loop-i-test.true)) no)

pub loop-i-preserved : goal.loop-i-preserved
loop-i-preserved c =
    all_more (lies_ahead c.args.position.0 c.args.area.now) c.loop-i.i c.loop-i.invariant
    (sym (ap (λ (p : ℕ). leb c.args.position.0 p && ltb p 1103806595072) c.position_ahead.ensures) ∙ sym c.lies_ahead.ensures ∙ c.if-not-lies_ahead.false)
