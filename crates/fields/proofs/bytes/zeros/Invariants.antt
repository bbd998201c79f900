-- `fields::bytes::zeros`. Invariant: whether the bytes passed are zero. Assumes nothing.
use Rattle.std.proofs.Common.{◌≡◌}
use Rattle.fields.specs.RecordBytes.{zero_bytes}
use Rattle.fields.proofs.bytes.zeros.Given as goal

abbrev pub invariant-loop-k : goal.invariant-loop-k
invariant-loop-k l = l.clear ≡ zero_bytes l.meta l.at l.k
