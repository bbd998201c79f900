-- The ORs of the heads so far, and what is left to test from info `k` on, decide. Assumes nothing.
use Rattle.std.proofs.Common.{◌≡◌, ◌-◌, ◌*◌, ◌&&◌}
use Rattle.formats.specs.Areas.{info_count, info_bytes, heads_valid}
use Rattle.formats.proofs.HeadsTested.{together}
use Rattle.formats.proofs.areas.each_valid.Given as goal

abbrev pub invariant-loop-k : goal.invariant-loop-k
invariant-loop-k l =
    (together l.heads l.anchors && heads_valid l.infos (info_bytes * l.k) (info_count - l.k)) ≡ heads_valid l.infos 0 info_count
