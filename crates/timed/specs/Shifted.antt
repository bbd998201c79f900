-- A reader may skip this file: the rules of specs/Rules over the numbers as they are kept, which are not below 0, in the code's shape. `due_shifted_is`, `left_shifted_is`,
-- `over_shifted`, `less_shifted`, `active_shifted_is` and `begins_shifted_is` of proofs/Shifted: they are the same, for every state. Assumes nothing.
use Rattle.std.specs.Prelude.{ℕ, ◌+◌, ◌-◌, Bool, false, cond, eqb, leb, ltb, get_or}
use Rattle.timed.specs.Rules.{middle, no_block}
use Rattle.timed.specs.declared.state.BlockState.{BlockState}
use Rattle.timed.specs.declared.state.ElementRendererState.{ElementRendererState}
use Rattle.timed.specs.declared.slot.Timing.{Timing}

abbrev pub due_shifted : Timing → BlockState → Bool
due_shifted w b = cond b.used false (ltb (w.payload.0 + b.offset) (w.start.0 + 1048576))

abbrev pub left_shifted : Timing → BlockState → ℕ
left_shifted w b = middle + b.ramp + b.offset + w.payload.0 - (w.start.0 + 2097152)

abbrev pub active_shifted : ElementRendererState → Bool
active_shifted e = cond (eqb e.blocks 0) false (leb 1048576 (get_or e.schedule 0 no_block).offset)

abbrev pub begins_shifted : Timing → ElementRendererState → Bool
begins_shifted w e = cond (active_shifted e) (leb (w.payload.0 + (get_or e.schedule 0 no_block).offset) (w.start.0 + 1048576)) false
