-- `fill_all`. Invariant: the bytes of the first samples are in their planes. Assumes nothing.
use Rattle.std.proofs.Common.{◌≡◌, ℕ, ◌+◌, ◌*◌, ◌<◌, get_or}
use Rattle.planes.proofs.bytes.fill_all.Given as goal

abbrev pub invariant-loop-j : goal.invariant-loop-j
invariant-loop-j l = record {
  first : (i : ℕ) → i < 4 * l.j → get_or l.first i 0 ≡ get_or l.source (4 * i + 0) 0;
  second : (i : ℕ) → i < 4 * l.j → get_or l.second i 0 ≡ get_or l.source (4 * i + 1) 0;
  third : (i : ℕ) → i < 4 * l.j → get_or l.third i 0 ≡ get_or l.source (4 * i + 2) 0;
  fourth : (i : ℕ) → i < 4 * l.j → get_or l.fourth i 0 ≡ get_or l.source (4 * i + 3) 0;
}
