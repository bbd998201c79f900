-- `records::layout::cells` meets its contract. Assumes nothing.
use Prim.Native.Nat.{◌*◌, ◌≤◌}
use native.Mathlib.Nat.{mul-le-mul}
use borrow.Author.Rules.{rules}
use Rattle.records.proofs.layout.cells.Goals as goal

pub overflow_mul-result : goal.overflow_mul-result
overflow_mul-result c = let l : c.args.objects * c.args.blocks ≤ 32 * 8 = mul-le-mul c.requires.0 c.requires.1 in search rules

pub returns : goal.returns
returns c = let l : c.args.objects * c.args.blocks ≤ 32 * 8 = mul-le-mul c.requires.0 c.requires.1 in search rules
