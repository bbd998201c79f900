-- `limiter::places::load_block` meets its contract. Assumes nothing.
use native.Mathlib.Omega.{arith}
use mathlib.Core.Path.{◌≡◌, ap, ◌∙◌}
use Prim.Native.Nat.{◌+◌, ◌*◌, ◌≤◌}
use lib.ListN.{length}
use Rattle.limiter.specs.ChannelPlaces.{floats_at}
use Rattle.limiter.proofs.Blocks.{part_length, load_next, load_skip}
use Rattle.limiter.proofs.places.load_block.Goals as goal

pub loop-row-preserved : goal.loop-row-preserved
loop-row-preserved c =
    let l = c.loop-row in
    let a = c.args in
    let z = c.load_samples in
    let at = 64 * l.row in
    let h : at + a.taken.samples ≤ length l.block = omega arith in
    let e : z.new.samples ≡ floats_at a.places.now (4 * at) a.taken.samples = z.ensures ∙ ap (floats_at a.places.now (4 * at)) (part_length a.taken.samples at l.block h) in
    let j : 64 * (l.row + 1) ≡ at + 64 = omega arith in
    let n = load_next a.places.now a.taken.present.now l.row a.taken.samples at l.block (omega arith) (omega arith) z.new.samples c.if-not-taken-row.false (omega arith) e in
    (n.0 ∙ l.invariant.0, rw j (n.1 ∙ l.invariant.1))

pub loop-row-preserved-then-not-taken-row : goal.loop-row-preserved-then-not-taken-row
loop-row-preserved-then-not-taken-row c =
    let l = c.loop-row in
    let a = c.args in
    let at = 64 * l.row in
    let j : 64 * (l.row + 1) ≡ at + 64 = omega arith in
    let n = load_skip a.places.now a.taken.present.now l.row a.taken.samples at l.block (omega arith) (omega arith) c.if-not-taken-row.true in
    (l.invariant.0, rw j (n ∙ l.invariant.1))
