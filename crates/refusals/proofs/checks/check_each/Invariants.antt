-- `checks::check_each`: nothing was found before the bed. Assumes nothing.
use mathlib.Core.Path.{◌≡◌}
use lib.ListN.{drop}
use Rattle.rules.specs.Refusals.{beds_found}
use Rattle.refusals.proofs.checks.check_each.Given as goal

abbrev pub invariant-loop-code : goal.invariant-loop-code
invariant-loop-code l = let beds = l.beds.list.now in let codes = l.codes.list.now in beds_found beds codes (drop l.code-index beds) ≡ beds_found beds codes beds
