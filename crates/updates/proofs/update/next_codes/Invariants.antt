-- `updates::update::next_codes`: the turns left lead from the codes now to those at the end. Assumes nothing.
use Rattle.timed.proofs.Theorems.{Leads}
use Rattle.updates.specs.Applied.{code_given}
use Rattle.updates.specs.Said.{update_of}
use Rattle.updates.proofs.update.next_codes.Given as goal

abbrev pub invariant-loop-k : goal.invariant-loop-k
invariant-loop-k l = Leads (code_given (update_of l.said.meta.now l.said.place)) 18 l.initial.next l.k l.next
