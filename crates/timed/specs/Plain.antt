-- Document 01, item 5, without R-11: a slot where no object is held, as the Rust has it. `free_same` of proofs/Plain: where no object has a mark, `slot_at` is this rule. The
-- definitions are those of specs/Objects, Slot and State, of the same names, without the marks. Assumes nothing.
use Rattle.std.specs.Prelude.{ℕ, ◌+◌, ◌*◌, Bool, true, false, ◌&&◌, ◌||◌, cond, List, eqb, get_or, set, Float, ◌≡◌}
use Rattle.vectors.specs.Vectors.{lerp_vec3}
use Rattle.vectors.specs.declared.BlockPosition.{BlockPosition}
use Rattle.vectors.specs.declared.Placed.{Placed}
use Rattle.vectors.specs.Target.{placed}
use Rattle.timed.specs.Turns.{times}
use Rattle.timed.specs.InfoSizes.{most_blocks, position_byte, last_byte, info_at}
use Rattle.timed.specs.Infos.{block_position, with_vec}
use Rattle.timed.specs.Objects.{ObjectAfter, ObjectsWork, no_source, no_track, with_levels, put_at, bed_gains}
use Rattle.timed.specs.Rules.{no_block, element_of, remaining_of, kept_as, due, left_after, ramp_over, share, slot_less, active}
use Rattle.timed.specs.Slot.{SlotWork, Sourced, slot_begun}
use Rattle.timed.specs.State.{Timed, element_taken, reach_of, slot_left, timing_of, slot_at}
use Rattle.timed.specs.declared.state.Track.{Track}
use Rattle.timed.specs.declared.state.DynamicSourceState.{DynamicSourceState}
use Rattle.timed.specs.declared.state.ElementRendererState.{ElementRendererState}
use Rattle.timed.specs.declared.objects.Moving.{Moving}
use Rattle.timed.specs.declared.slot.Timing.{Timing}
use Rattle.timed.specs.declared.slot.Reach.{Reach}
use Rattle.timed.specs.declared.slot.Slot.{Slot}

-- ---- a block

abbrev pub plain_after : Bool → ℕ → DynamicSourceState → List ℕ → BlockPosition → Placed → ObjectAfter
plain_after arrived k s is b p =
    record {
      moved = record {
        source = put_at (cond (b.valid && arrived) p.target s.place) ((b.valid && arrived) || s.placed) (with_levels is k s);
        track = record { now = b.valid; future = p.target };
      };
      infos = with_vec (with_vec is (info_at k + position_byte) p.position) (info_at k + last_byte) p.last;
    }

unfoldable pub plain_moved : Bool → ℕ → DynamicSourceState → List ℕ → ObjectAfter
unfolding block_position
plain_moved arrived k s is = plain_after arrived k s is (block_position is k) (placed (block_position is k) s.place)

abbrev pub plain_moved_at : Bool → ℕ → ℕ → ObjectsWork → ObjectsWork
plain_moved_at arrived first d w =
    let a = plain_moved arrived (first + most_blocks * d) (get_or w.moving.sources d no_source) w.infos in
    record {
      moving = record { sources = set w.moving.sources d a.moved.source; tracks = set w.moving.tracks d a.moved.track };
      infos = a.infos;
    }

unfoldable pub plain_applied : Timing → Reach → ℕ → SlotWork → SlotWork
unfolding plain_moved bed_gains
plain_applied w r b k =
    let s = k.slot in
    let block = get_or s.schedule b no_block in
    let left = left_after w block in
    let m = times r.count 0 (plain_moved_at (ramp_over left) (r.first + b)) (record { moving = s.moving; infos = k.infos }) in
    record {
      slot = record {
        schedule = set s.schedule b (record { offset = block.offset; ramp = block.ramp; used = true });
        remaining = kept_as left;
        gains = bed_gains k.infos (r.beds + b) r.channels s.gains;
        moving = m.moving;
      };
      infos = m.infos;
    }

abbrev pub plain_turn : Timing → Reach → ℕ → SlotWork → SlotWork
plain_turn w r b k = cond (due w (get_or k.slot.schedule b no_block)) (plain_applied w r b k) k

-- ---- the ramp

-- "A ramp moves by 64 / remaining, at most 1, when the object was also being moved before (its flag set at this element's previous slot, and a position already given); otherwise
-- it goes straight to the target."
unfoldable pub plain_ramped : Float → Bool → Track → DynamicSourceState → DynamicSourceState
plain_ramped t last k s = cond k.now (put_at (cond (last && s.placed) (lerp_vec3 s.place k.future t) k.future) true s) s

abbrev pub plain_ramped_at : Float → List Track → ℕ → Moving → Moving
plain_ramped_at t before d m =
    record {
      sources = set m.sources d (plain_ramped t (get_or before d no_track).now (get_or m.tracks d no_track) (get_or m.sources d no_source));
      tracks = m.tracks;
    }

unfoldable pub plain_ramp : List Track → ℕ → Slot → Slot
unfolding plain_ramped
plain_ramp before n s =
    cond (ramp_over (remaining_of s.remaining)) s
    (record {
      schedule = s.schedule;
      remaining = kept_as (slot_less (remaining_of s.remaining));
      gains = s.gains;
      moving = times n 0 (plain_ramped_at (share (remaining_of s.remaining)) before) s.moving;
    })

-- ---- the slot

unfoldable pub plain_sources : Timing → Reach → ElementRendererState → List Float → List DynamicSourceState → List ℕ → Sourced
unfolding plain_applied plain_ramp
plain_sources w r e gains sources is =
    let k = times e.blocks 0 (plain_turn w r) (slot_begun e gains sources is) in
    let s = plain_ramp e.tracks r.count k.slot in
    record {
      updated = record {
        element = record { blocks = e.blocks; flags = e.flags; remaining = s.remaining; schedule = s.schedule; tracks = s.moving.tracks };
        gains = s.gains;
        sources = s.moving.sources;
      };
      infos = k.infos;
    }

unfoldable pub plain_slot : ℕ → Timed → Timed
unfolding element_taken plain_sources active
plain_slot start t =
    let s = t.state in
    let w = timing_of start s in
    let i = element_taken w s.states s.elements in
    let e = element_of s i in
    cond (eqb s.elements 0) t (cond (active e) (slot_left s i (plain_sources w (reach_of s i) e s.gains s.sources t.infos)) t)

-- ---- the tie

-- no hold of it is asked for, and none is in effect
pub record Unheld (o : DynamicSourceState) : Type 0 where
  pub wanted : o.wanted ≡ false
  pub held : o.held ≡ false

abbrev pub Unmarked : List DynamicSourceState → Type 0
Unmarked l = (d : ℕ) → Unheld (get_or l d no_source)

abbrev pub FreeSame : Type 0
FreeSame = (start : ℕ) (t : Timed) → Unmarked t.state.sources → slot_at start t ≡ plain_slot start t
