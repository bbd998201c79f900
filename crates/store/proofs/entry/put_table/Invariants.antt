-- The entries before `i` are stored. Assumes nothing.
use Rattle.std.proofs.Common.{◌≡◌}
use Rattle.words.specs.Words.{with_words}
use Rattle.formats.specs.Format.{array}
use Rattle.store.proofs.entry.put_table.Given as goal

abbrev pub invariant-loop-i : goal.invariant-loop-i
invariant-loop-i g l = l.s ≡ with_words l.initial.s l.at ((array l.i g.T.Entry.format).put l.xs)
