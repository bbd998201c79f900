-- `records::run::all_pass`. Invariant: whatever the test tells of, each record passed has it. Assumes nothing.
use Rattle.std.proofs.Common.{◌≡◌, ℕ, ◌+◌, Bool, true}
use Rattle.fields.specs.RecordBytes.{all}
use Rattle.fields.specs.declared.record.Record.{Record}
use Rattle.records.proofs.run.all_pass.Given as goal

abbrev pub invariant-loop-k : goal.invariant-loop-k
invariant-loop-k g l =
    (p : ℕ → Bool) → ((x : Record) (b : Bool) → x.meta.now ≡ l.meta → goal.F-post g l.test x b → b ≡ p x.place) → all (λ j. p (l.r + j)) l.k ≡ true
