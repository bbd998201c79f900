-- The slot of a state within its ranges. Assumes nothing.
use mathlib.Core.Path.{sym, ◌∙◌}
use native.Mathlib.Omega.{arith}
use Rattle.timed.proofs.Theorems.{within_later}
use Rattle.probes.proofs.Timed.{fits_within}
use Rattle.probes.proofs.probe_timed.probe_update_timeslot.Goals as goal

pub update_timeslot-requires : goal.update_timeslot-requires
update_timeslot-requires c = (
  omega arith,
  omega arith,
  within_later c.args.start 1099511627776 _ (omega arith) (fits_within _ _ (sym c.state_fits.ensures ∙ c.if-state_fits.true)),
)
