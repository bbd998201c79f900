-- `limiter::places::store_block` meets its contract. Assumes nothing.
use native.Mathlib.Omega.{arith}
use mathlib.Core.Path.{refl, sym, ap, ◌∙◌}
use Prim.Native.Nat.{ℕ, ◌+◌, ◌*◌}
use Rattle.limiter.specs.Limiter.{scaled_block}
use Rattle.limiter.specs.ChannelPlaces.{channels, with_channels}
use Rattle.limiter.proofs.Blocks.{part_length, store_part, store_next, store_skip, room_at}
use Rattle.limiter.proofs.places.store_block.Goals as goal

pub loop-c-init : goal.loop-c-init
unfolding with_channels scaled_block channels
loop-c-init c = refl

pub scale_slice_into-requires : goal.scale_slice_into-requires
scale_slice_into-requires c =
    let l = c.loop-c in
    let a = c.args in
    let r = room_at l.c 12 a.step (omega arith) in
    part_length (4 * a.taken.samples) (a.step * l.c + a.to) l.out (omega arith) ∙ ap (λ (n : ℕ). 4 * n) (sym (part_length a.taken.samples (64 * l.c) a.block.now (omega arith)))

pub loop-c-preserved : goal.loop-c-preserved
loop-c-preserved c =
    let l = c.loop-c in
    let a = c.args in
    let z = c.scale_slice_into in
    let r = room_at l.c 12 a.step (omega arith) in
    store_next a.gain a.taken.present.now l.c a.taken.samples a.step a.to a.block.now a.out.now (omega arith) l.invariant c.if-not-taken-c.false
    (store_part a.gain a.taken.samples (64 * l.c) (a.step * l.c + a.to) a.block.now l.out z.new.out (omega arith) (omega arith) z.ensures)

pub loop-c-preserved-then-not-taken-c : goal.loop-c-preserved-then-not-taken-c
loop-c-preserved-then-not-taken-c c =
    let l = c.loop-c in
    let a = c.args in
    store_skip a.gain a.taken.present.now l.c a.taken.samples a.step a.to a.block.now a.out.now (omega arith) l.invariant c.if-not-taken-c.true
