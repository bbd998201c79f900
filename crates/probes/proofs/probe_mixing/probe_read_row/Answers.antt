-- Samples that pass are plain. Assumes nothing.
use mathlib.Core.Path.{sym, ◌∙◌}
use Rattle.mixing.proofs.Passes.{pass_plain}
use Rattle.probes.proofs.probe_mixing.probe_read_row.Goals as goal

pub read_row-requires-clause-plain : goal.read_row-requires-clause-plain
read_row-requires-clause-plain c = pass_plain _ 0 _ (sym c.samples_pass.ensures ∙ c.if-samples_pass.true)
