-- `limiter::block_peak` meets its contract. Assumes nothing.
use mathlib.Core.Path.{refl}
use native.Mathlib.Omega.{arith}
use lib.Ieee.{of_bits}
use Rattle.limiter.specs.Limiter.{block_peak}
use Rattle.limiter.specs.ChannelPlaces.{channels}
use Rattle.limiter.proofs.Peaks.{zero_level}
use Rattle.limiter.proofs.Blocks.{peak_skip}
use Rattle.limiter.proofs.block_peak.Goals as goal

pub loop-c-init : goal.loop-c-init
unfolding of_bits block_peak channels
loop-c-init c = (zero_level, refl)

pub loop-c-preserved-then-not-taken-c : goal.loop-c-preserved-then-not-taken-c
loop-c-preserved-then-not-taken-c c =
    let l = c.loop-c in
    let a = c.args in
    (l.invariant.0, peak_skip a.taken.present.now l.c a.taken.samples a.block.now l.invariant.1 (omega arith) c.if-not-taken-c.true l.invariant.0)
