-- `store::ranges::hall_valid` meets its contract: the built-in table is right. Assumes nothing.
use mathlib.Core.Path.{refl, sym, ap, subst, ◌∙◌}
use Prim.Native.Nat.{ℕ, ◌<◌, ◌≤◌}
use borrow.Author.Tests.{lt-leb}
use Rattle.panning.specs.Setup.{table_right}
use Rattle.panning.proofs.Theorems.{built_in_right}
use Rattle.store.proofs.BlockTests.{hall_good, hall_past}
use Rattle.store.proofs.HallTables.{is_built_in_table}
use Rattle.store.specs.Layout.{table_in}
use Rattle.store.proofs.ranges.hall_valid.Goals as goal

pub returns-then-is_built_in : goal.returns-then-is_built_in
returns-then-is_built_in c =
    let b = c.args.state.now in
    c.if-is_built_in.true
    ∙ sym (ap table_right (is_built_in_table (table_in b) refl (sym c.is_built_in.ensures ∙ c.if-is_built_in.true)) ∙ built_in_right)
    ∙ sym (hall_good b (subst (λ (n : ℕ). n ≤ 3) c.layout.ensures c.if-layout-le-LAST_LAYOUT.true))

pub returns-else-is_built_in : goal.returns-else-is_built_in
returns-else-is_built_in c =
    let b = c.args.state.now in
    c.table_valid.ensures ∙ sym (hall_good b (subst (λ (n : ℕ). n ≤ 3) c.layout.ensures c.if-layout-le-LAST_LAYOUT.true))

pub returns-else-layout-le-LAST_LAYOUT : goal.returns-else-layout-le-LAST_LAYOUT
returns-else-layout-le-LAST_LAYOUT c =
    let b = c.args.state.now in
    let h = c.if-layout-le-LAST_LAYOUT.false in
    lt-leb c.layout.result 3 h ∙ sym (hall_past b (subst (λ (n : ℕ). 3 < n) c.layout.ensures h))
