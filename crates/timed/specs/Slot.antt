-- A slot of an element: `update_sources`, by the rules of specs/Rules. Assumes nothing.
use Rattle.std.specs.Prelude.{ℕ, ◌+◌, true, cond, List, get_or, set, Float}
use Rattle.timed.specs.Turns.{times}
pub use Rattle.timed.specs.Rules.{middle, no_block}
pub use Rattle.timed.specs.Preconditions.{InRange}
use Rattle.timed.specs.Rules.{remaining_of, kept_as, due, left_after, ramp_over, share, slot_less}
use Rattle.timed.specs.Objects.{moved_all, bed_gains, ramped_all, freed_all}
use Rattle.timed.specs.declared.state.Track.{Track}
use Rattle.timed.specs.declared.state.DynamicSourceState.{DynamicSourceState}
use Rattle.timed.specs.declared.state.ElementRendererState.{ElementRendererState}
use Rattle.timed.specs.declared.slot.Timing.{Timing}
use Rattle.timed.specs.declared.slot.Reach.{Reach}
use Rattle.timed.specs.declared.slot.Slot.{Slot}
use Rattle.timed.specs.declared.slot.Updated.{Updated}

-- ---- blocks

-- a slot in work, and the infos
pub record SlotWork : Type 0 where
  pub slot : Slot
  pub infos : List ℕ

-- block b, applied: it counts as used, its ramp remains, beds take its gains and objects its gains, sizes and targets
unfoldable pub block_applied : Timing → Reach → ℕ → SlotWork → SlotWork
unfolding moved_all bed_gains
block_applied w r b k =
    let s = k.slot in
    let block = get_or s.schedule b no_block in
    let left = left_after w block in
    let m = moved_all (ramp_over left) (r.first + b) r.count s.moving k.infos in
    record {
      slot = record {
        schedule = set s.schedule b (record { offset = block.offset; ramp = block.ramp; used = true });
        remaining = kept_as left;
        gains = bed_gains k.infos (r.beds + b) r.channels s.gains;
        moving = m.moving;
      };
      infos = m.infos;
    }

abbrev pub block_turn : Timing → Reach → ℕ → SlotWork → SlotWork
block_turn w r b k = cond (due w (get_or k.slot.schedule b no_block)) (block_applied w r b k) k

-- the first n blocks in order
unfoldable pub blocks_applied : Timing → Reach → ℕ → SlotWork → SlotWork
unfolding times block_applied
blocks_applied w r n k = times n 0 (block_turn w r) k

-- ---- the ramp

-- Where a ramp remains, each object moves by its share, and 64 samples of the ramp are over; `before` has the flags of the element's previous slot. Where none remains, objects
-- that are released are put at their targets.
unfoldable pub ramp_applied : List Track → ℕ → Slot → Slot
unfolding ramped_all freed_all
ramp_applied before n s =
    cond (ramp_over (remaining_of s.remaining))
    (record { schedule = s.schedule; remaining = s.remaining; gains = s.gains; moving = freed_all n s.moving })
    (record {
      schedule = s.schedule;
      remaining = kept_as (slot_less (remaining_of s.remaining));
      gains = s.gains;
      moving = ramped_all (share (remaining_of s.remaining)) before n s.moving;
    })

-- ---- the element

-- the element with the beds and objects that it moves, and the infos
pub record Sourced : Type 0 where
  pub updated : Updated
  pub infos : List ℕ

-- its slot before any block
abbrev pub slot_begun : ElementRendererState → List Float → List DynamicSourceState → List ℕ → SlotWork
slot_begun e gains sources is =
    record { slot = record { schedule = e.schedule; remaining = e.remaining; gains = gains; moving = record { sources = sources; tracks = e.tracks } }; infos = is }

unfoldable pub updated_sources : Timing → Reach → ElementRendererState → List Float → List DynamicSourceState → List ℕ → Sourced
unfolding due left_after remaining_of kept_as share blocks_applied ramp_applied
updated_sources w r e gains sources is =
    let k = blocks_applied w r e.blocks (slot_begun e gains sources is) in
    let s = ramp_applied e.tracks r.count k.slot in
    record {
      updated = record {
        element = record { blocks = e.blocks; flags = e.flags; remaining = s.remaining; schedule = s.schedule; tracks = s.moving.tracks };
        gains = s.gains;
        sources = s.moving.sources;
      };
      infos = k.infos;
    }
