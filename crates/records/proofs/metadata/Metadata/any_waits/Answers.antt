-- `records::metadata::Metadata::any_waits`: one passed, or none. Assumes nothing.
use Rattle.std.proofs.Common.{◌≡◌, ℕ, Bool, eqb, sym, ap, ◌∙◌, arith}
use Rattle.records.specs.Falls.{no_sample, waits_in}
use Rattle.records.specs.LayoutAnswers.{offset_at}
use Rattle.records.specs.declared.sent.Layout.{Layout}
use Rattle.records.proofs.SomeAndLast.{some_at, some_past, some_nothing}
use Rattle.records.proofs.metadata.Metadata.any_waits.Goals as goal

one : Layout → ℕ → Bool
one l i = eqb (offset_at l i) no_sample

pub loop-i-init : goal.loop-i-init
unfolding waits_in one
loop-i-init c = some_nothing (one c.args.self.now.layout)

pub returns-then-eq : goal.returns-then-eq
unfolding waits_in one
returns-then-eq c =
    let l = c.args.self.now.layout in
    sym (some_at (one l) l.count c.loop-i.i c.loop-i-test.true (sym c.eq.ensures ∙ c.if-eq.true))

pub loop-i-preserved : goal.loop-i-preserved
unfolding waits_in one
loop-i-preserved c = some_past (one c.args.self.now.layout) c.loop-i.i c.loop-i.invariant (sym c.eq.ensures ∙ c.if-eq.false)

pub returns : goal.returns
returns c =
    let l = c.args.self.now.layout in
    let q : l.count ≡ c.loop-i.i = omega (arith, c.loop-i-test.false, c.loop-i.auto.i-end) in
    sym (ap (waits_in (offset_at l)) q ∙ c.loop-i.invariant)
