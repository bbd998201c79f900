-- `timed::state::ElementRendererState::update_sources`: the blocks keep the remaining ramp within its range. Assumes nothing.
use Prim.Native.Nat.{◌+◌}
use native.Mathlib.Omega.{arith}
use Rattle.timed.proofs.Ramps.{blocks_ramps, later}
use Rattle.timed.proofs.state.ElementRendererState.update_sources.Goals as goal

pub ramp-requires : goal.ramp-requires
ramp-requires c =
    let w = c.args.when in
    let p = 1099511627776 + w.start.0 in
    let h = later 1099511627776 p c.args.self (omega arith) c.requires in
    rw c.apply_blocks.ensures.slot (blocks_ramps p w c.args.reach (omega arith) c.args.self.blocks _ h.blocks h.ramps).most
