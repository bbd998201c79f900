-- `store::ranges::table_valid`: a table with no fault is right. Assumes nothing.
use mathlib.Core.Path.{ap, ◌∙◌}
use mathlib.Core.List.{List}
use Prim.Native.Nat.{ℕ}
use Rattle.panning.specs.Fault.{fault_of}
use Rattle.panning.specs.Setup.{table_place}
use Rattle.store.proofs.HallTables.{faultless}
use Rattle.store.specs.Layout.{table_in}
use Rattle.store.proofs.ranges.table_valid.Goals as goal

pub returns : goal.returns
returns c =
    faultless (table_in c.args.state.now) c.table_fault.result c.is_none.result (c.table_fault.ensures ∙ ap (λ (t : List ℕ). fault_of (table_place t)) c.table.ensures) c.is_none.ensures
