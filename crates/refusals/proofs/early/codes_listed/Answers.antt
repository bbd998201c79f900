-- `early::codes_listed`: the chain says it of each index. Assumes nothing.
use Prim.Native.Nat.{◌≤◌}
use mathlib.Core.Logic.{◌↔◌}
use borrow.Author.Rules.{rules}
use lib.ListN.{get_or}
use Rattle.std.specs.Prelude.{EachIndex, IsTrue}
use Rattle.refusals.proofs.First.{all_listed}
use Rattle.refusals.proofs.early.codes_listed.Goals as goal

pub returns : goal.returns
returns c =
    let s = c.args.codes.now in
    let h : IsTrue c.all.result ↔ EachIndex s (λ k. get_or s k 0 ≤ 17) = search rules in
    all_listed s c.all.result h
