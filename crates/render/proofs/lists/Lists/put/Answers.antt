-- `put`: the term written past the end of its channel's list.
use native.Mathlib.Omega.{arith}
use Prim.Native.Nat.{◌<◌}
use lib.ListN.{get_or}
use Rattle.render.proofs.PutTerm.{one_fits, put_grown}
use Rattle.render.proofs.lists.Lists.put.Goals as goal

pub overflow_add-self : goal.overflow_add-self
overflow_add-self c =
    let a = c.args in
    let r = c.requires.1.room a.c in
    let o = one_fits a.gain in
    let e = c.heard.ensures in
    omega arith

pub returns : goal.returns
returns c =
    let a = c.args in
    let r = c.requires.1.room a.c in
    let l : get_or a.self.now.counts a.c 0 < 50 = omega (arith, c.if-n-eq-ROOM.false) in
    rw c.heard.ensures (put_grown a.self.now c.requires.1 a.c a.input a.gain c.requires.0 l)
