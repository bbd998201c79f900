-- `process_in_place` meets its contract: what is done and what is left, filtered, are the whole filtered, and the filter left runs to the same end. Assumes nothing.
use mathlib.Core.Path.{◌≡◌, sym, ◌∙◌}
use mathlib.Core.List.{[], append-nil}
use Prim.Native.Nat.{◌≤◌, ◌<◌}
use native.Mathlib.Omega.{arith}
use lib.ListN.{length, take, drop, drop_of_length-le}
use lib.Seq.{take_all}
use Rattle.lowpass.proofs.InPlace.{state_more, list_more}
use Rattle.lowpass.proofs.BiquadLowpassState.process_in_place.Goals as goal

pub loop-i-preserved : goal.loop-i-preserved
loop-i-preserved c =
    let l = c.loop-i in
    let e = c.process-done.ensures in
    let h : l.i < length l.samples = omega arith in
    (rw e.1 (state_more l.self l.samples l.i h _ ∙ l.invariant.0), rw (e.0, e.1) (list_more l.self l.samples l.i h ∙ l.invariant.1))

pub returns : goal.returns
returns c =
    let l = c.loop-i in
    let h : length l.samples ≤ l.i = omega arith in
    let d : drop l.i l.samples ≡ [] = drop_of_length-le l.samples h in
    let t : take l.i l.samples ≡ l.samples = take_all l.i l.samples h in
    (rw d at l.invariant.0, sym (append-nil l.samples) ∙ (rw (d, t) at l.invariant.1))
