-- `records::metadata::Metadata::any_falls`: one passed, or none. Assumes nothing.
use Rattle.std.proofs.Common.{◌≡◌, ℕ, Bool, not, eqb, sym, ap, ◌∙◌, arith}
use Rattle.records.specs.Falls.{no_sample, falls_in}
use Rattle.records.specs.LayoutAnswers.{offset_at}
use Rattle.records.specs.declared.sent.Layout.{Layout}
use Rattle.records.proofs.SomeAndLast.{some_at, some_past, some_nothing}
use Rattle.records.proofs.metadata.Metadata.any_falls.Goals as goal

one : Layout → ℕ → Bool
one l i = not (eqb (offset_at l i) no_sample)

pub loop-i-init : goal.loop-i-init
unfolding falls_in one
loop-i-init c = some_nothing (one c.args.self.now.layout)

pub returns-then-ne : goal.returns-then-ne
unfolding falls_in one
returns-then-ne c =
    let l = c.args.self.now.layout in
    sym (some_at (one l) l.count c.loop-i.i c.loop-i-test.true (sym c.ne.ensures ∙ c.if-ne.true))

pub loop-i-preserved : goal.loop-i-preserved
unfolding falls_in one
loop-i-preserved c = some_past (one c.args.self.now.layout) c.loop-i.i c.loop-i.invariant (sym c.ne.ensures ∙ c.if-ne.false)

pub returns : goal.returns
returns c =
    let l = c.args.self.now.layout in
    let q : l.count ≡ c.loop-i.i = omega (arith, c.loop-i-test.false, c.loop-i.auto.i-end) in
    sym (ap (falls_in (offset_at l)) q ∙ c.loop-i.invariant)
