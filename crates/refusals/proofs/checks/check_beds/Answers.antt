-- `checks::check_beds`: the beds of the shape are the first of its codes. Assumes nothing.
use Prim.Native.Nat.{◌≤◌}
use borrow.Author.Rules.{rules}
use lib.ListN.{length}
use Rattle.refusals.proofs.Sent.{take_each}
use Rattle.refusals.proofs.First.{handed_on}
use Rattle.refusals.proofs.checks.check_beds.Goals as goal

pub returns-in_err-check_each : goal.returns-in_err-check_each
returns-in_err-check_each c =
    let few : c.args.p.beds ≤ length c.args.p.codes = search (rules, c.well_formed) in
    let t = take_each c.args.p.codes c.args.p.beds few in
    rw (c.if-p.true) (handed_on _ _ c.from_residual.ensures.1 (rw (← t) c.in_err-check_each.ensures))

pub returns-in_ok-check_each : goal.returns-in_ok-check_each
returns-in_ok-check_each c =
    let few : c.args.p.beds ≤ length c.args.p.codes = search (rules, c.well_formed) in
    let t = take_each c.args.p.codes c.args.p.beds few in
    rw (c.if-p.true, ← t) c.in_ok-check_each.ensures
