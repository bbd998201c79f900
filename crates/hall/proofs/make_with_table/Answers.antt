-- `make_with_table`: a block of another length, a code above 3, or a table that is refused, is left; any other is filled.
use mathlib.Core.Path.{refl, sym, ap, ◌∙◌}
use mathlib.Core.List.{List}
use Prim.Native.Nat.{ℕ, ◌≤◌}
use native.Mathlib.Omega.{arith}
use borrow.Author.Tests.{eq-eqb, ne_eqb}
use Rattle.panning.specs.Setup.{table_place}
use Rattle.panning.specs.Fault.{fault_of}
use Rattle.rules.specs.Samples.{fresh}
use Rattle.theorem.specs.Instance.{hall, block_encode}
use Rattle.refusals.specs.RefusalNumbers.{table_refusal}
use Rattle.refusals.specs.declared.Refusal.TheVariants.{Layout, TableLength}
use Rattle.hall.proofs.WaysOut.{is_make_with, not_taken, not_made, makes}
use Rattle.hall.proofs.FoundOfTable.{layout_first, length_next, places_stop, places_pass}
use Rattle.hall.proofs.make_with_table.Goals as goal

pub returns-then-state-ne-STATE_BYTES-clause-left : goal.returns-then-state-ne-STATE_BYTES-clause-left
returns-then-state-ne-STATE_BYTES-clause-left c = let a = c.args in not_taken (is_make_with a.layout a.table.now) a.state.now (ne_eqb _ _ c.if-state-ne-STATE_BYTES.true)

pub returns-then-layout-gt-LAST_LAYOUT-clause-left : goal.returns-then-layout-gt-LAST_LAYOUT-clause-left
returns-then-layout-gt-LAST_LAYOUT-clause-left c =
    let a = c.args in
    not_made (is_make_with a.layout a.table.now) a.state.now (eq-eqb _ _ c.if-state-ne-STATE_BYTES.false) Layout
    (layout_first a.layout a.table.now c.if-layout-gt-LAST_LAYOUT.true) refl

pub returns-then-table-ne-TABLE_BYTES-clause-left : goal.returns-then-table-ne-TABLE_BYTES-clause-left
returns-then-table-ne-TABLE_BYTES-clause-left c =
    let a = c.args in
    not_made (is_make_with a.layout a.table.now) a.state.now (eq-eqb _ _ c.if-state-ne-STATE_BYTES.false) TableLength
    (length_next a.layout a.table.now (omega (arith, c.if-layout-gt-LAST_LAYOUT.false)) c.if-table-ne-TABLE_BYTES.true) refl

pub returns-in-Some-clause-left : goal.returns-in-Some-clause-left
returns-in-Some-clause-left c =
    let a = c.args in
    let few : a.layout ≤ 3 = omega (arith, c.if-layout-gt-LAST_LAYOUT.false) in
    let f = c.in-Some.fault in
    rw c.from.ensures
    (not_made (is_make_with a.layout a.table.now) a.state.now (eq-eqb _ _ c.if-state-ne-STATE_BYTES.false) (table_refusal f)
    (places_stop a.layout a.table.now few c.if-table-ne-TABLE_BYTES.false f
    (sym c.in-Some.is ∙ c.table_fault.ensures ∙ ap (λ (w : List ℕ). fault_of (table_place w)) c.table_words-table.ensures)) refl)

pub returns-clause-left : goal.returns-clause-left
returns-clause-left c =
    let a = c.args in
    let few : a.layout ≤ 3 = omega (arith, c.if-layout-gt-LAST_LAYOUT.false) in
    makes (is_make_with a.layout a.table.now) a.state.now (eq-eqb _ _ c.if-state-ne-STATE_BYTES.false)
    (places_pass a.layout a.table.now few c.if-table-ne-TABLE_BYTES.false
    (sym c.in_default.is ∙ c.table_fault.ensures ∙ ap (λ (w : List ℕ). fault_of (table_place w)) c.table_words-table.ensures))
    (c.make.ensures ∙ ap (λ (w : List ℕ). block_encode (fresh hall (record { layout = a.layout; table = w }))) c.table_words-table.ensures)
