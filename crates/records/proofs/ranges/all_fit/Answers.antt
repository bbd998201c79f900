-- `records::ranges::all_fit`: each record passes. Assumes nothing.
use Rattle.std.proofs.Common.{◌/◌, length, ap, ◌∙◌, arith}
use Rattle.fields.proofs.Theorems.{all_same}
use Rattle.records.proofs.RecordKinds.{told}
use Rattle.records.specs.ValuesInRange.{record_fits, all_fit}
use Rattle.records.proofs.ranges.all_fit.Goals as goal

pub returns : goal.returns
unfolding all_fit
returns c =
    let m = c.args.meta.now in
    c.all_pass.ensures (record_fits m) (told record_fits m)
    ∙ all_same _ (record_fits m) (length m / 40) (λ i h. ap (record_fits m) (omega arith))
