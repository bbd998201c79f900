-- The tests on both sides of what is returned.
use Prim.Native.Nat.{◌≤◌}
use native.Mathlib.Omega.{arith}
use Rattle.roots.proofs.NearestWhole.{near, large, below, not_below}
use Rattle.roots.proofs.nearest.nearest_whole.Goals as goal
use Rattle.roots.proofs.nearest.nearest_whole.Goals.{Else-top-n}

-- where r + 1 is not below the root, r is at least the least of the numbers with 24 digits
enough : (c : Else-top-n) → 8388608 ≤ c.args.r
enough c = let l = large _ c.requires.0 _ (not_below c.top.ensures c.if-top-n.false) in omega (arith, l)

pub returns-then-top-n : goal.returns-then-top-n
returns-then-top-n c =
    near _ c.requires.0 _ _ (omega arith) (below c.top.ensures c.if-top-n.true) (not_below c.top-then-top-n.ensures c.if-top-n-2.false)

pub top-requires-2 : goal.top-requires-2
top-requires-2 c = let l = enough (goal.at.top-requires-2 c).Else-top-n in (omega (arith, l), omega arith)

pub returns-then-top-n-3 : goal.returns-then-top-n-3
returns-then-top-n-3 c =
    near _ c.requires.0 _ _ (omega arith) (below c.top-2.ensures c.if-top-n-3.true) (not_below c.top.ensures c.if-top-n.false)

pub overflow_sub-r : goal.overflow_sub-r
overflow_sub-r c = let l = enough (goal.at.overflow_sub-r c).Else-top-n in omega (arith, l)

pub top-requires-3 : goal.top-requires-3
top-requires-3 c = let l = enough (goal.at.top-requires-3 c).Else-top-n in (omega (arith, l), omega arith)

pub returns-then-top-n-4 : goal.returns-then-top-n-4
returns-then-top-n-4 c =
    let l = enough (goal.at.returns-then-top-n-4 c).Else-top-n in
    near _ c.requires.0 _ _ (omega (arith, l)) (below c.top-3.ensures c.if-top-n-4.true) (not_below c.top-2.ensures c.if-top-n-3.false)
