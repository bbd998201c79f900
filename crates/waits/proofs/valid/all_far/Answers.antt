-- `waits::valid::all_far`: laid out, so many, and each of kind 9. Assumes nothing.
use Rattle.std.proofs.Common.{◌≡◌, ◌<◌, Bool, ◌&&◌, sym, ap, ap₂, ◌∙◌, arith}
use Rattle.fields.specs.RecordBytes.{all}
use Rattle.fields.specs.Update.{is_far}
use Rattle.fields.proofs.Theorems.{all_none, all_more, all_fails, all_passed, and_false}
use Rattle.records.specs.Laid.{update_at, is_updates, count}
use Rattle.records.proofs.Theorems.{found}
use Rattle.waits.proofs.ValidArea.{not_laid_updates, other_count, update_stands}
use Rattle.waits.proofs.valid.all_far.Goals as goal

pub returns-in_default : goal.returns-in_default
returns-in_default c =
    let m = c.args.records.now in
    let l = c.requires in
    sym (ap (λ (b : Bool). b && all (λ i. is_far m (update_at m i)) c.args.count) (not_laid_updates m c.args.count (omega (arith, l)) c.in_default.ensures))

pub returns-then-layout-count : goal.returns-then-layout-count
returns-then-layout-count c =
    let m = c.args.records.now in
    let l = c.requires in
    sym (ap (λ (b : Bool). b && all (λ i. is_far m (update_at m i)) c.args.count)
    (other_count m c.args.count c.in-Some.layout.count (omega (arith, l)) c.in-Some.ensures.0.counted c.if-layout-count.true))

pub loop-i-init : goal.loop-i-init
loop-i-init c = all_none _

pub invariant_of-update : goal.invariant_of-update
invariant_of-update c =
    let laid = c.in-Some.ensures.0 in
    let one : c.loop-i.i < c.in-Some.layout.count = omega (arith, c.loop-i-test.true, c.if-layout-count.false) in
    let s = update_stands c.args.records.now c.in-Some.layout laid c.loop-i.i one in
    let p = laid.places c.loop-i.i (omega (arith, one, laid.counted)) in
    record { there = omega (arith, s, p) }

pub returns-then-not-is_far : goal.returns-then-not-is_far
returns-then-not-is_far c =
    let m = c.args.records.now in
    let i = c.loop-i.i in
    let laid = c.in-Some.ensures.0 in
    let p = laid.places i (omega (arith, c.loop-i-test.true, c.if-layout-count.false, laid.counted)) in
    let no = ap (is_far m) (sym p) ∙ sym c.is_far.ensures ∙ c.if-not-is_far.true in
    sym (and_false (is_updates m c.args.count) (all_fails (λ k. is_far m (update_at m k)) c.args.count i c.loop-i-test.true no))

pub loop-i-preserved : goal.loop-i-preserved
loop-i-preserved c =
    let m = c.args.records.now in
    let i = c.loop-i.i in
    let laid = c.in-Some.ensures.0 in
    let p = laid.places i (omega (arith, c.loop-i-test.true, c.if-layout-count.false, laid.counted)) in
    all_more (λ k. is_far m (update_at m k)) i c.loop-i.invariant (ap (is_far m) (sym p) ∙ sym c.is_far.ensures ∙ c.if-not-is_far.false)

pub returns : goal.returns
returns c =
    let m = c.args.records.now in
    let n = c.args.count in
    let laid = c.in-Some.ensures.0 in
    let counted : count m ≡ n = omega (arith, laid.counted, c.if-layout-count.false) in
    let updates = ap (is_updates m) (sym counted) ∙ found m laid.laid in
    let far = all_passed (λ k. is_far m (update_at m k)) n c.loop-i.i (omega (arith, c.loop-i.auto.i-end)) (omega (arith, c.loop-i-test.false)) c.loop-i.invariant in
    sym (ap₂ (λ (a b : Bool). a && b) updates far)
