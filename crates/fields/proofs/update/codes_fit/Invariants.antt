-- `fields::update::codes_fit`. Invariant: whether the codes passed fit. Assumes nothing.
use Rattle.std.proofs.Common.{◌≡◌, ◌+◌, leb, get_or}
use Rattle.fields.specs.RecordBytes.{all}
use Rattle.fields.specs.Update.{most_at}
use Rattle.fields.proofs.update.codes_fit.Given as goal

abbrev pub invariant-loop-k : goal.invariant-loop-k
invariant-loop-k l = l.fit ≡ all (λ j. leb (get_or l.meta (l.at + j) 0) (most_at j l.beds)) l.k
