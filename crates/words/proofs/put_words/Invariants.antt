-- `put_words`. Invariant: the first i words are written. Assumes nothing.
use Rattle.std.proofs.Common.{◌≡◌, ◌-◌, ◌≤◌, length, take}
use Rattle.words.specs.Words.{with_words}
use Rattle.words.proofs.put_words.Given as goal

abbrev pub invariant-loop-i : goal.invariant-loop-i
invariant-loop-i l = (l.i ≤ length l.ws) × (l.s ≡ with_words l.initial.s l.at (take l.i l.ws))

abbrev pub decreases-loop-i : goal.decreases-loop-i
decreases-loop-i l = length l.ws - l.i
