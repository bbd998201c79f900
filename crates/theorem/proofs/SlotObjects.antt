-- A slot gives beds and objects no gain, no size and no send but those that they or the infos hold, and no place but f32 values: whatever holds of every gain (`G`) and of every
-- size and send (`Z`) still does. Assumes nothing.
use Prim.Native.Nat.{ℕ, ◌+◌, ◌*◌, ◌<◌, ◌≤◌}
use mathlib.Core.Path.{◌≡◌}
use mathlib.Core.Bool.{Bool, not, ◌&&◌}
use mathlib.Core.List.{List}
use native.Mathlib.Omega.{arith}
use lib.ListN.{get_or}
use lib.Ieee.{Float, nan, binary32}
use lib.Ieee.Bits.{of_bits-fits}
use Rattle.std.specs.Prelude.{unwrap_or, Option, Some, None}
use Rattle.words.specs.Words.{float_at}
use Rattle.vectors.specs.Vectors.{lerp_vec3}
use Rattle.vectors.specs.Target.{placed}
use Rattle.vectors.specs.Fit.{VecFits, BlockFits, PlacedFits}
use Rattle.vectors.proofs.Fitting.{placed_fits, lerp_fits}
use Rattle.timed.specs.Infos.{maybe_at, vec_at, gain_at, size_at, send_at, block_position}
use Rattle.timed.specs.Objects.{no_source, no_track, object_moved, moved_at, moved_all, bed_at, bed_gains, ramped, ramped_at, ramped_all, freed, freed_at, freed_all}
use Rattle.timed.specs.Objects as objects
use Rattle.timed.specs.declared.state.Track.{Track}
use Rattle.timed.specs.declared.state.DynamicSourceState.{DynamicSourceState}
use Rattle.timed.specs.declared.objects.Moving.{Moving}
use Rattle.timed.proofs.Theorems.{times_in, cond_keeps, set_each, Like, like_head, moved_like}
use Rattle.timed.specs.InfoSizes.{info_bytes, position_byte, last_byte}

-- absent, or with P
abbrev pub Holds : (Float → Type 0) → Option Float → Type 0
Holds P None = Unit {0}
Holds P (Some x) = P x

pub record SourceHas (G Z : Float → Type 0) (s : DynamicSourceState) : Type 0 where
  pub gain : G s.gain
  pub size : Z s.size
  pub place : VecFits s.place
  pub send : Z s.send

pub record InfosHave (G Z : Float → Type 0) (is : List ℕ) : Type 0 where
  pub gain : (k : ℕ) → Holds G (gain_at is k)
  pub size : (k : ℕ) → Holds Z (size_at is k)
  pub send : (k : ℕ) → Z (send_at is k)

pub record MovingHas (G Z : Float → Type 0) (m : Moving) : Type 0 where
  pub sources : (d : ℕ) → d < 16 → SourceHas G Z (get_or m.sources d no_source)
  pub targets : (d : ℕ) → d < 16 → VecFits (get_or m.tracks d no_track).future

-- ---- infos

maybe_like : {is js : List ℕ} → Like is js → (k bit at : ℕ) → at ≤ 16 → maybe_at js k bit at ≡ maybe_at is k bit at
unfolding maybe_at float_at
maybe_like h k bit at l = rw (like_head h k, h.same k at l)

pub like_has : {G Z : Float → Type 0} {is js : List ℕ} → Like is js → InfosHave G Z is → InfosHave G Z js
unfolding float_at
like_has l h =
    record {
      gain = λ k. rw (maybe_like l k 4 4 (omega arith)) (h.gain k);
      size = λ k. rw (maybe_like l k 32 8 (omega arith)) (h.size k);
      send = λ k. rw (l.sent k) (h.send k);
    }

vec_at_fits : (is : List ℕ) (at : ℕ) → VecFits (vec_at is at)
unfolding vec_at float_at
vec_at_fits is at = record { x_fits = of_bits-fits binary32 _; y_fits = of_bits-fits binary32 _; z_fits = of_bits-fits binary32 _ }

block_fits : (is : List ℕ) (k : ℕ) → BlockFits (block_position is k)
unfolding block_position
block_fits is k = record { position_fits = vec_at_fits is (info_bytes * k + position_byte); last_fits = vec_at_fits is (info_bytes * k + last_byte) }

or_else_holds : (P : Float → Type 0) (m : Option Float) (x : Float) → Holds P m → P x → P (unwrap_or m x)
or_else_holds P None x h p = p
or_else_holds P (Some y) x h p = h

-- ---- one object

module _ (G Z : Float → Type 0) where
  module _ (arrived : Bool) (k : ℕ) (s : DynamicSourceState) (is : List ℕ) (h : SourceHas G Z s) where
    target_fits : PlacedFits (placed (block_position is k) s.place)
    target_fits = placed_fits (block_position is k) s.place (block_fits is k) h.place

    pub moved_has : InfosHave G Z is → SourceHas G Z (object_moved arrived k s is).moved.source
    unfolding object_moved
    moved_has i =
        record {
          gain = or_else_holds G (gain_at is k) s.gain (i.gain k) h.gain;
          size = or_else_holds Z (size_at is k) s.size (i.size k) h.size;
          place = cond_keeps VecFits ((block_position is k).valid && arrived && not s.wanted) (placed (block_position is k) s.place).target s.place (λ _. target_fits.target_fits)
              (λ _. h.place);
          send = i.send k;
        }

    pub track_fits : VecFits (object_moved arrived k s is).moved.track.future
    unfolding object_moved
    track_fits = target_fits.target_fits

  pub ramped_has : (t : Float) (last : Bool) (k : Track) (s : DynamicSourceState) → SourceHas G Z s → VecFits k.future → SourceHas G Z (ramped t last k s)
  unfolding ramped
  ramped_has t last k s h f =
      cond_keeps (SourceHas G Z) k.now _ s
      (λ _. record {
        gain = h.gain;
        size = h.size;
        place = cond_keeps VecFits s.wanted s.place _ (λ _. h.place)
            (λ _. cond_keeps VecFits (last && s.placed) (lerp_vec3 s.place k.future t) k.future (λ _. lerp_fits s.place k.future t) (λ _. f));
        send = h.send;
      })
      (λ _. h)

  pub freed_has : (k : Track) (s : DynamicSourceState) → SourceHas G Z s → VecFits k.future → SourceHas G Z (freed k s)
  unfolding freed
  freed_has k s h f =
      cond_keeps (SourceHas G Z) (k.now && (s.held && not s.wanted)) _ s (λ _. record { gain = h.gain; size = h.size; place = f; send = h.send }) (λ _. h)

-- ---- the loops

record WorkHas (G Z : Float → Type 0) (w : objects.ObjectsWork) : Type 0 where
  moving : MovingHas G Z w.moving
  infos : InfosHave G Z w.infos

module _ (G Z : Float → Type 0) where
  moved_at_has : (arrived : Bool) (first d : ℕ) (w : objects.ObjectsWork) → d < 16 → WorkHas G Z w → WorkHas G Z (moved_at arrived first d w)
  moved_at_has arrived first d w l h =
      let s = get_or w.moving.sources d no_source in
      let k = first + 8 * d in
      let a = object_moved arrived k s w.infos in
      let g = h.moving.sources d l in
      record {
        moving = record {
          sources = set_each (λ i x. i < 16 → SourceHas G Z x) w.moving.sources d a.moved.source no_source (λ _. moved_has G Z arrived k s w.infos g h.infos)
              h.moving.sources;
          targets = set_each (λ i x. i < 16 → VecFits x.future) w.moving.tracks d a.moved.track no_track (λ _. track_fits G Z arrived k s w.infos g)
              h.moving.targets;
        };
        infos = like_has (moved_like arrived k s w.infos) h.infos;
      }

  pub moved_all_has : (arrived : Bool) (first count : ℕ) (m : Moving) (is : List ℕ) → count ≤ 16 → MovingHas G Z m → InfosHave G Z is
      → MovingHas G Z (moved_all arrived first count m is).moving
  unfolding moved_all
  moved_all_has arrived first count m is l h i =
      (times_in (WorkHas G Z) (moved_at arrived first) 16 (λ d w b k. moved_at_has arrived first d w b k) count 0 (omega arith) (record { moving = m; infos = is })
      (record { moving = h; infos = i })).moving

  pub ramped_all_has : (t : Float) (before : List Track) (count : ℕ) (m : Moving) → count ≤ 16 → MovingHas G Z m → MovingHas G Z (ramped_all t before count m)
  unfolding ramped_all
  ramped_all_has t before count m l h =
      times_in (MovingHas G Z) (ramped_at t before) 16
      (λ d w b k.
      let last = (get_or before d no_track).now in
      let track = get_or w.tracks d no_track in
      let s = get_or w.sources d no_source in
      record {
        sources = set_each (λ i x. i < 16 → SourceHas G Z x) w.sources d (ramped t last track s) no_source (λ _. ramped_has G Z t last track s (k.sources d b) (k.targets d b))
            k.sources;
        targets = k.targets;
      })
      count 0 (omega arith) m h

  pub freed_all_has : (count : ℕ) (m : Moving) → count ≤ 16 → MovingHas G Z m → MovingHas G Z (freed_all count m)
  unfolding freed_all
  freed_all_has count m l h =
      times_in (MovingHas G Z) freed_at 16
      (λ d w b k.
      let track = get_or w.tracks d no_track in
      let s = get_or w.sources d no_source in
      record {
        sources = set_each (λ i x. i < 16 → SourceHas G Z x) w.sources d (freed track s) no_source (λ _. freed_has G Z track s (k.sources d b) (k.targets d b)) k.sources;
        targets = k.targets;
      })
      count 0 (omega arith) m h

  pub bed_gains_have : (is : List ℕ) (first count : ℕ) (gs : List Float) → count ≤ 18 → InfosHave G Z is → ((i : ℕ) → i < 18 → G (get_or gs i nan)) → (i : ℕ) → i < 18
      → G (get_or (bed_gains is first count gs) i nan)
  unfolding bed_gains
  bed_gains_have is first count gs l h =
      times_in (λ (x : List Float). (i : ℕ) → i < 18 → G (get_or x i nan)) (bed_at is first) 18
      (λ i x b k. set_each (λ j y. j < 18 → G y) x i (unwrap_or (gain_at is (first + 8 * i)) (get_or x i nan)) nan
      (λ _. or_else_holds G (gain_at is (first + 8 * i)) (get_or x i nan) (h.gain (first + 8 * i)) (k i b)) k)
      count 0 (omega arith) gs
