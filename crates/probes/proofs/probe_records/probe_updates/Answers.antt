-- A list that is not laid out has no updates. Assumes nothing.
use mathlib.Core.Path.{sym}
use Rattle.records.proofs.Theorems.{unlaid_counts}
use Rattle.probes.proofs.probe_records.probe_updates.Goals as goal

pub returns-in-None : goal.returns-in-None
returns-in-None c = sym (unlaid_counts c.args.meta.now c.in-None.ensures)
