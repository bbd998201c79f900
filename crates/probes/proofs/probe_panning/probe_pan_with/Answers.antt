-- `probe_pan_with`: what `table_of` answers is a table that is right. Assumes nothing.
use mathlib.Core.Path.{ap, ◌∙◌}
use Rattle.panning.specs.Setup.{table_right}
use Rattle.probes.proofs.Tables.{right_if}
use Rattle.probes.proofs.probe_panning.probe_pan_with.Goals as goal

pub pan_sorted-requires : goal.pan_sorted-requires
pan_sorted-requires c = ap table_right c.table_of.ensures ∙ right_if c.args.table.now
