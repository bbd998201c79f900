-- `waits::valid::all_far`. Invariant: each update passed is of kind 9. Assumes nothing.
use Rattle.std.proofs.Common.{◌≡◌, true}
use Rattle.fields.specs.RecordBytes.{all}
use Rattle.fields.specs.Update.{is_far}
use Rattle.records.specs.Laid.{update_at}
use Rattle.waits.proofs.valid.all_far.Given as goal

abbrev pub invariant-loop-i : goal.invariant-loop-i
invariant-loop-i l = all (λ i. is_far l.records (update_at l.records i)) l.i ≡ true
