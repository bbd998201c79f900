-- Where the OR of the heads so far is in range, what is left to test from info `k` on decides. Assumes nothing.
use Rattle.std.proofs.Common.{◌≡◌, ◌-◌, ◌*◌, T}
use Rattle.formats.specs.Info.{head_valid}
use Rattle.formats.specs.Areas.{info_count, info_bytes, heads_valid}
use Rattle.formats.proofs.areas.heads_valid.Given as goal

abbrev pub invariant-loop-k : goal.invariant-loop-k
invariant-loop-k l =
    T (head_valid l.heads) → heads_valid l.infos (info_bytes * l.k) (info_count - l.k) ≡ heads_valid l.infos 0 info_count
