-- `run`: what is run from here on was run from the entry on. Assumes nothing.
use Rattle.hallrender.proofs.Handling.{From}
use Rattle.hallrender.proofs.Program.run.Given as goal

abbrev pub invariant-loop : goal.invariant-loop
invariant-loop l = From l.initial.self l.self
