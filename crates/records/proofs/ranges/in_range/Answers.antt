-- `records::ranges::in_range`: each record passes. Assumes nothing.
use Rattle.std.proofs.Common.{◌/◌, length, ap, ◌∙◌, arith}
use Rattle.fields.proofs.Theorems.{all_same}
use Rattle.records.proofs.RecordKinds.{told}
use Rattle.records.specs.ValuesInRange.{record_in_range, in_range}
use Rattle.records.proofs.ranges.in_range.Goals as goal

pub returns : goal.returns
unfolding in_range
returns c =
    let m = c.args.meta.now in
    c.all_pass.ensures (record_in_range m) (told record_in_range m)
    ∙ all_same _ (record_in_range m) (length m / 40) (λ i h. ap (record_in_range m) (omega arith))
