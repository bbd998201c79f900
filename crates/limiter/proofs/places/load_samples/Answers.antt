-- `limiter::places::load_samples` meets its contract. Assumes nothing.
use native.Mathlib.Omega.{arith}
use native.Mathlib.Numerals.{add-one}
use mathlib.Core.Path.{sym}
use Prim.Native.Nat.{◌<◌}
use lib.ListN.{length}
use lib.Seq.{take-suc-set}
use Rattle.words.proofs.Runs.{floats_more}
use Rattle.limiter.proofs.places.load_samples.Goals as goal

pub loop-i-preserved : goal.loop-i-preserved
loop-i-preserved c =
    let a = c.args in
    let h : c.loop-i.i < length c.loop-i.samples = omega arith in
    rw (add-one, take-suc-set c.loop-i.samples c.loop-i.i c.f32_at.result h, c.loop-i.invariant, c.f32_at.ensures) (sym (floats_more a.places.now a.at c.loop-i.i))
