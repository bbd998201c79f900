-- R-12: what an accepted push leaves waiting is within its ranges at the push's end, and refusals 5 and 6 let its records pass. Assumes nothing.
use Prim.Native.Nat.{ℕ, ◌+◌, ◌≤◌}
use mathlib.Core.Path.{◌≡◌}
use mathlib.Core.Bool.{true}
use mathlib.Core.List.{List}
use Rattle.words.specs.Words.{Bytes}
use Rattle.records.specs.Laid.{laid_out}
use Rattle.records.specs.ValuesInRange.{in_range}
use Rattle.waits.specs.Settled.{fits, area_settled}
use Rattle.waits.proofs.Ahead.{ahead_settle as settled, kept_settle as stays}
use Rattle.theorem.proofs.AheadRanges.{Ahead, Kept}

pub ahead_settle : (n k : ℕ) (ws meta : List ℕ) → n + k ≤ 1099511627776 → Ahead n ws → Bytes meta → laid_out meta ≡ true → in_range meta ≡ true → fits n k ws meta ≡ true
    → Ahead (n + k) (area_settled n k ws meta)
ahead_settle n k ws meta l a b o r f =
    let s = settled n k ws meta l a.long a.bytes a.valid b o r f in
    record { long = s.0; bytes = s.1; valid = s.2 }

pub kept_settle : (n k : ℕ) (ws meta : List ℕ) → Kept ws → Bytes meta → laid_out meta ≡ true → in_range meta ≡ true → fits n k ws meta ≡ true → Kept (area_settled n k ws meta)
kept_settle n k ws meta a b o r f =
    let s = stays n k ws meta a.long a.bytes a.laid a.counted a.range b o r f in
    record { long = s.0; bytes = s.1; laid = s.2; counted = s.3; range = s.4 }
