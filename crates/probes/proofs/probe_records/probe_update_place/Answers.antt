-- A list that is not laid out has no updates. Assumes nothing.
use mathlib.Core.Path.{refl}
use native.Mathlib.Omega.{arith}
use borrow.Author.Tests.{le-ltb}
use Rattle.records.proofs.Theorems.{unlaid_counts}
use Rattle.probes.proofs.probe_records.probe_update_place.Goals as goal

pub returns-in_default-2 : goal.returns-in_default-2
returns-in_default-2 c = let a = c.args in rw (unlaid_counts a.meta.now c.in_default.ensures, le-ltb a.i 0 (omega arith)) refl
