-- `gather`. Invariant: the first k samples are put together. Assumes nothing.
use Rattle.std.proofs.Common.{◌≡◌, ℕ, ◌+◌, ◌*◌, ◌<◌, get_or}
use Rattle.planes.proofs.bytes.gather.Given as goal

abbrev pub invariant-loop-k : goal.invariant-loop-k
invariant-loop-k l = record {
  first : (i : ℕ) → i < l.k → get_or l.dest (4 * i) 0 ≡ get_or l.source i 0;
  second : (i : ℕ) → i < l.k → get_or l.dest (4 * i + 1) 0 ≡ get_or l.source (l.count + i) 0;
  third : (i : ℕ) → i < l.k → get_or l.dest (4 * i + 2) 0 ≡ get_or l.source (2 * l.count + i) 0;
  fourth : (i : ℕ) → i < l.k → get_or l.dest (4 * i + 3) 0 ≡ get_or l.source (3 * l.count + i) 0;
}
