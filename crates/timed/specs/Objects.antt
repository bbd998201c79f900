-- What a block that is applied and a ramp do to beds and dynamic objects: `update_source_state`, `update_bed_source_state` and the loops of `update_sources` over objects.
-- Assumes nothing.
use Rattle.std.specs.Prelude.{ℕ, ◌+◌, ◌*◌, Bool, true, false, not, ◌&&◌, ◌||◌, cond, List, get_or, set, Float, unwrap_or}
use Rattle.std.specs.Float.{nan}
use Rattle.vectors.specs.declared.Vec3.{Vec3}
use Rattle.vectors.specs.declared.BlockPosition.{BlockPosition}
use Rattle.vectors.specs.declared.Placed.{Placed}
use Rattle.vectors.specs.Vectors.{lerp_vec3}
use Rattle.vectors.specs.Target.{placed}
use Rattle.timed.specs.Turns.{times}
use Rattle.timed.specs.InfoSizes.{most_blocks, position_byte, last_byte, info_at}
use Rattle.timed.specs.Infos.{gain_at, size_at, send_at, block_position, with_vec}
use Rattle.timed.specs.declared.state.DynamicSourceState.{DynamicSourceState}
use Rattle.timed.specs.declared.state.Track.{Track}
use Rattle.timed.specs.declared.objects.Moved.{Moved}
use Rattle.timed.specs.declared.objects.Moving.{Moving}

-- ---- what stands past a table's end

abbrev pub nowhere : Vec3
nowhere = record { x = nan; y = nan; z = nan }

abbrev pub no_source : DynamicSourceState
no_source = record { gain = nan; size = nan; place = nowhere; placed = false; wanted = false; held = false; send = nan }

abbrev pub no_track : Track
no_track = record { now = false; future = nowhere }

-- ---- a block that is applied

-- an object with its track, and the infos after it
pub record ObjectAfter : Type 0 where
  pub moved : Moved
  pub infos : List ℕ

-- the object where it is, with another gain, size and send
abbrev pub heard_with : DynamicSourceState → Float → Float → Float → DynamicSourceState
heard_with s gain size send =
    record { gain = gain; size = size; place = s.place; placed = s.placed; wanted = s.wanted; held = s.held; send = send }

-- the object at another place, and whether one was given
abbrev pub put_at : Vec3 → Bool → DynamicSourceState → DynamicSourceState
put_at place placed s =
    record { gain = s.gain; size = s.size; place = place; placed = placed; wanted = s.wanted; held = s.held; send = s.send }

-- gain and size where info k has them, and the send; R-3: "a block that is applied sets it"
abbrev pub with_levels : List ℕ → ℕ → DynamicSourceState → DynamicSourceState
with_levels is k s = heard_with s (unwrap_or (gain_at is k) s.gain) (unwrap_or (size_at is k) s.size) (send_at is k)

-- What block position b and its target p make of an object, for info k. R-11: while it is held "the object's panned position stops, while gain, size, targets, flags .. continue";
-- "Whether a slot ramps or goes straight is decided as without the hold", so `placed` goes on too.
abbrev pub after_move : Bool → ℕ → DynamicSourceState → List ℕ → BlockPosition → Placed → ObjectAfter
after_move arrived k s is b p =
    record {
      moved = record {
        source = put_at (cond (b.valid && arrived && not s.wanted) p.target s.place) ((b.valid && arrived) || s.placed) (with_levels is k s);
        track = record { now = b.valid; future = p.target };
      };
      infos = with_vec (with_vec is (info_at k + position_byte) p.position) (info_at k + last_byte) p.last;
    }

-- Info k for one object: gain, size and send; its target; the object put there where no ramp remains (`arrived`).
-- The info then holds the position that was used, and the last absolute one.
unfoldable pub object_moved : Bool → ℕ → DynamicSourceState → List ℕ → ObjectAfter
unfolding block_position
object_moved arrived k s is = after_move arrived k s is (block_position is k) (placed (block_position is k) s.place)

-- the dynamic objects, and the infos
pub record ObjectsWork : Type 0 where
  pub moving : Moving
  pub infos : List ℕ

abbrev pub moved_at : Bool → ℕ → ℕ → ObjectsWork → ObjectsWork
moved_at arrived first d w =
    let a = object_moved arrived (first + most_blocks * d) (get_or w.moving.sources d no_source) w.infos in
    record {
      moving = record { sources = set w.moving.sources d a.moved.source; tracks = set w.moving.tracks d a.moved.track };
      infos = a.infos;
    }

-- the first `count` objects in order; the info of object d is first + 8 d
unfoldable pub moved_all : Bool → ℕ → ℕ → Moving → List ℕ → ObjectsWork
unfolding times object_moved
moved_all arrived first count m is = times count 0 (moved_at arrived first) (record { moving = m; infos = is })

abbrev pub bed_at : List ℕ → ℕ → ℕ → List Float → List Float
bed_at is first i gs = set gs i (unwrap_or (gain_at is (first + most_blocks * i)) (get_or gs i nan))

-- the beds' gains, where present; the info of bed i is first + 8 i
unfoldable pub bed_gains : List ℕ → ℕ → ℕ → List Float → List Float
unfolding times
bed_gains is first count gs = times count 0 (bed_at is first) gs

-- ---- a ramp

-- Document 01, item 5: "A ramp moves by 64 / remaining, at most 1, when the object was also being moved before (its flag set at this element's previous slot, and a
-- position already given); otherwise it goes straight to the target." t is the share, `last` the flag at the previous slot. R-11: a held object stays where it is.
unfoldable pub ramped : Float → Bool → Track → DynamicSourceState → DynamicSourceState
ramped t last k s =
    cond k.now (put_at (cond s.wanted s.place (cond (last && s.placed) (lerp_vec3 s.place k.future t) k.future)) true s) s

abbrev pub ramped_at : Float → List Track → ℕ → Moving → Moving
ramped_at t before d m =
    record { sources = set m.sources d (ramped t (get_or before d no_track).now (get_or m.tracks d no_track) (get_or m.sources d no_source)); tracks = m.tracks }

unfoldable pub ramped_all : Float → List Track → ℕ → Moving → Moving
unfolding times ramped
ramped_all t before count m = times count 0 (ramped_at t before) m

-- ---- no ramp

-- R-11, "Release takes effect at the next slot: an unfinished ramp goes on from the held position with what remains, a finished one puts the object at its target. .. an object
-- not being moved there has no target and stays put."
unfoldable pub freed : Track → DynamicSourceState → DynamicSourceState
freed k s = cond (k.now && (s.held && not s.wanted)) (put_at k.future s.placed s) s

abbrev pub freed_at : ℕ → Moving → Moving
freed_at d m = record { sources = set m.sources d (freed (get_or m.tracks d no_track) (get_or m.sources d no_source)); tracks = m.tracks }

unfoldable pub freed_all : ℕ → Moving → Moving
unfolding times freed
freed_all count m = times count 0 freed_at m
