-- `run`: what is run from here on was run from the entry on. Assumes nothing.
use mathlib.Core.Path.{refl}
use mathlib.Core.List.{[]}
use borrow.Author.Rules.{rules}
use Rattle.hallrender.proofs.Handling.{goes}
use Rattle.hallrender.proofs.Program.run.Goals as goal

pub returns-in_err-say : goal.returns-in_err-say
returns-in_err-say c =
    goes _ c.args.self.now c.loop.self c.one.new.self (search rules) c.loop.invariant c.in_ok-one.ensures
    _ _ (record { inputs = []; block = refl; output = refl })

pub loop-preserved : goal.loop-preserved
loop-preserved c = goes _ c.args.self.now c.loop.self c.one.new.self (search rules) c.loop.invariant c.in_ok-one.ensures
