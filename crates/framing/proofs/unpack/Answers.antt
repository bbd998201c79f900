-- `unpack`: the first k records are of PCM, and what they hold stands at the front. Assumes nothing.
use lib.ListN.{length}
use native.Mathlib.Omega.{arith}
use Rattle.framing.proofs.Unpacking.{none_held, none_are, record_more, record_bad}
use borrow.Author.Rules.{rules}
use Rattle.std.proofs.lemmas.Result.{err_from_is_err_and}
use Rattle.framing.proofs.unpack.Goals as goal

pub loop-k-init : goal.loop-k-init
loop-k-init c =
    let a = c.args in
    (none_are (length a.pcm.now) a.records.now, none_held (length a.pcm.now) a.records.now a.pcm.now)

pub returns-in_err-take_nine : goal.returns-in_err-take_nine
returns-in_err-take_nine c =
    let a = c.args in
    let l = c.loop-k in
    let t = c.take_nine in
    let p = err_from_is_err_and c.from_residual.result c.from_residual.ensures.1 in
    rw p.1 (
    record_bad (length a.pcm.now) a.records.now l.pcm l.k (search rules) c.requires.0 (omega arith)
    t.result t.new.rest c.in_err-take_nine.was t.ensures l.invariant.0
    )

pub loop-k-preserved : goal.loop-k-preserved
loop-k-preserved c =
    let a = c.args in
    let l = c.loop-k in
    let t = c.take_nine in
    record_more (length a.pcm.now) a.records.now l.pcm l.k (search rules) c.requires.0 (omega arith)
    t.result t.new.rest c.in_ok-take_nine.was t.ensures l.invariant.0 l.invariant.1
