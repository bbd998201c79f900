-- How many of the words before `i` differ, and that none does exactly if they are equal. Assumes nothing.
use Rattle.std.proofs.Common.{◌≡◌, ◌≤◌}
use lib.Dec.{eqb}
use Rattle.words.specs.Words.{words_at}
use Rattle.panning.specs.Setup.{built_in_table}
use Rattle.store.specs.FieldPlaces.{table_count}
use Rattle.store.specs.HallTables.{equal_below}
use Rattle.store.proofs.hall_table.is_built_in.Given as goal

abbrev pub invariant-loop-i : goal.invariant-loop-i
invariant-loop-i l = record { most : l.differing ≤ l.i; none : eqb l.differing 0 ≡ equal_below (words_at l.s l.at table_count) built_in_table l.i }
