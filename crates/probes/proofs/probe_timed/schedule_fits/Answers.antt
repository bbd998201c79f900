-- The chain says it of each block. Assumes nothing.
use Prim.Native.Nat.{◌≤◌}
use mathlib.Core.Logic.{◌↔◌}
use borrow.Author.Rules.{rules}
use lib.ListN.{get_or}
use Rattle.std.specs.Prelude.{EachIndex, IsTrue}
use Rattle.timed.specs.Slot.{no_block}
use Rattle.probes.proofs.Timed.{schedule_is}
use Rattle.probes.proofs.probe_timed.schedule_fits.Goals as goal

pub returns : goal.returns
returns c =
    let s = c.args.schedule in
    let h : IsTrue c.all.result ↔ EachIndex s (λ k. ((get_or s k no_block).offset ≤ 2097152) × ((get_or s k no_block).ramp ≤ 2097152)) = search rules in
    schedule_is s c.all.result (search rules) h
