-- `make`: a block of another length, or a code above 3, is left; any other is filled.
use mathlib.Core.Path.{refl}
use native.Mathlib.Omega.{arith}
use lib.Ieee.{to_bits}
use borrow.Author.Tests.{eq-eqb, ne_eqb}
use Rattle.panning.specs.Setup as setup
use Rattle.panning.specs.Speakers as speakers
use Rattle.refusals.specs.declared.Refusal.TheVariants.{Layout}
use Rattle.hall.proofs.WaysOut.{is_make, not_taken, not_made, makes}
use Rattle.hall.proofs.FoundOfTable.{layout_stops, layout_passes}
use Rattle.hall.proofs.make.Goals as goal

pub returns-then-state-ne-STATE_BYTES-clause-left : goal.returns-then-state-ne-STATE_BYTES-clause-left
returns-then-state-ne-STATE_BYTES-clause-left c = let a = c.args in not_taken (is_make a.layout) a.state.now (ne_eqb _ _ c.if-state-ne-STATE_BYTES.true)

pub returns-then-layout-gt-LAST_LAYOUT-clause-left : goal.returns-then-layout-gt-LAST_LAYOUT-clause-left
returns-then-layout-gt-LAST_LAYOUT-clause-left c =
    let a = c.args in
    not_made (is_make a.layout) a.state.now (eq-eqb _ _ c.if-state-ne-STATE_BYTES.false) Layout (layout_stops a.layout c.if-layout-gt-LAST_LAYOUT.true) refl

pub returns-clause-left : goal.returns-clause-left
unfolding setup.table_of speakers.positions714 to_bits
returns-clause-left c =
    let a = c.args in
    makes (is_make a.layout) a.state.now (eq-eqb _ _ c.if-state-ne-STATE_BYTES.false) (layout_passes a.layout (omega (arith, c.if-layout-gt-LAST_LAYOUT.false))) c.make.ensures
