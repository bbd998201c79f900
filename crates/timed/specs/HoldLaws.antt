-- R-11's sentences, as laws of a slot that hold for every state. `held_stays` .. of proofs/HoldLaws: they do. Assumes nothing.
use Rattle.std.specs.Prelude.{ℕ, ◌-◌, ◌<◌, ◌≡◌, Bool, true, false, not, ◌&&◌, cond, eqb, length, get_or}
use Rattle.vectors.specs.declared.Vec3.{Vec3}
use Rattle.vectors.specs.Vectors.{lerp_vec3}
use Rattle.timed.specs.Objects.{no_source, no_track}
use Rattle.timed.specs.Holds.{wants, wanting}
use Rattle.timed.specs.Rules.{no_block, element_of, remaining_of, due, left_after, ramp_over, share, active}
use Rattle.timed.specs.Slot.{slot_begun, blocks_applied}
use Rattle.timed.specs.State.{Timed, element_taken, reach_of, timing_of, slot_at}
use Rattle.timed.specs.declared.state.BlockState.{BlockState}
use Rattle.timed.specs.declared.state.Track.{Track}
use Rattle.timed.specs.declared.state.DynamicSourceState.{DynamicSourceState}
use Rattle.timed.specs.declared.slot.Slot.{Slot}
use Rattle.timed.specs.declared.state.MetadataRendererState.{MetadataRendererState}

abbrev pub object_numbered : ℕ → MetadataRendererState → DynamicSourceState
object_numbered d s = get_or s.sources d no_source

-- ---- "Hold takes effect at the next slot"

-- "the object's panned position stops", whatever element the slot takes and whatever would have moved it
abbrev pub HeldStays : Type 0
HeldStays = (start d : ℕ) (t : Timed) → wants d t.state ≡ true → (object_numbered d (slot_at start t).state).place ≡ (object_numbered d t.state).place

-- a slot leaves what is asked for, and from its end on that is in effect
abbrev pub StillWanted : Type 0
StillWanted = (start d : ℕ) (t : Timed) → wants d (slot_at start t).state ≡ wants d t.state

abbrev pub Settles : Type 0
Settles = (start d : ℕ) (t : Timed) → d < t.state.objects - t.state.isf → (object_numbered d (slot_at start t).state).held ≡ wants d t.state

-- ---- "Release takes effect at the next slot"

-- "Target and ramp are those of the element that the slot takes": the element, and whether it does anything
abbrev pub element_index : ℕ → MetadataRendererState → ℕ
element_index start s = element_taken (timing_of start s) s.states s.elements

abbrev pub acts : ℕ → MetadataRendererState → Bool
acts start s = not (eqb s.elements 0) && active (element_of s (element_index start s))

-- its slot once its blocks are applied, where ramp and release act, and what object d and its track are there
abbrev pub blocks_done : ℕ → Timed → Slot
blocks_done start t =
    let s = t.state in
    let e = element_of s (element_index start s) in
    (blocks_applied (timing_of start s) (reach_of s (element_index start s)) e.blocks (slot_begun e s.gains s.sources t.infos)).slot

abbrev pub source_in : ℕ → Slot → DynamicSourceState
source_in d s = get_or s.moving.sources d no_source

abbrev pub track_in : ℕ → Slot → Track
track_in d s = get_or s.moving.tracks d no_track

-- a dynamic object that was held up to here, and no longer is to be
pub record Released (d : ℕ) (s : MetadataRendererState) : Type 0 where
  pub held : (object_numbered d s).held ≡ true
  pub wanted : (object_numbered d s).wanted ≡ false
  pub dynamic : d < s.objects - s.isf
  pub stored : d < length s.sources

-- where a ramp of the element takes object d in this slot
abbrev pub ramp_place : ℕ → ℕ → Timed → Vec3
ramp_place start d t =
    let s = blocks_done start t in
    let k = track_in d s in
    let o = source_in d s in
    let last = get_or (element_of t.state (element_index start t.state)).tracks d no_track in
    cond (last.now && o.placed) (lerp_vec3 o.place k.future (share (remaining_of s.remaining))) k.future

abbrev pub block_numbered : ℕ → ℕ → Timed → BlockState
block_numbered start b t = get_or (element_of t.state (element_index start t.state)).schedule b no_block

-- "an unfinished ramp goes on from the held position with what remains": by 64 / remaining, or straight where it is straight without a hold
abbrev pub GoesOn : Type 0
GoesOn =
    (start d : ℕ) (t : Timed) → Released d t.state → acts start t.state ≡ true → ramp_over (remaining_of (blocks_done start t).remaining) ≡ false
    → (track_in d (blocks_done start t)).now ≡ true → (object_numbered d (slot_at start t).state).place ≡ ramp_place start d t

-- "a finished one puts the object at its target"
abbrev pub PutAtTarget : Type 0
PutAtTarget =
    (start d : ℕ) (t : Timed) → Released d t.state → acts start t.state ≡ true → ramp_over (remaining_of (blocks_done start t).remaining) ≡ true
    → (track_in d (blocks_done start t)).now ≡ true → (object_numbered d (slot_at start t).state).place ≡ (track_in d (blocks_done start t)).future

-- "an object not being moved there has no target and stays put"
abbrev pub StaysPut : Type 0
StaysPut =
    (start d : ℕ) (t : Timed) → Released d t.state → acts start t.state ≡ true → (track_in d (blocks_done start t)).now ≡ false
    → (object_numbered d (slot_at start t).state).place ≡ (source_in d (blocks_done start t)).place

-- where no element is taken, or one that does nothing, every object does
abbrev pub AllStay : Type 0
AllStay = (start d : ℕ) (t : Timed) → acts start t.state ≡ false → (object_numbered d (slot_at start t).state).place ≡ (object_numbered d t.state).place

-- Until the ramp and the release act the object is at the held position, unless a block of this very slot has no ramp left.
abbrev pub StandsUntil : Type 0
StandsUntil =
    (start d : ℕ) (t : Timed)
    → ((b : ℕ) → b < (element_of t.state (element_index start t.state)).blocks → due (timing_of start t.state) (block_numbered start b t) ≡ true → ramp_over (left_after (timing_of start t.state) (block_numbered start b t)) ≡ false)
    → (source_in d (blocks_done start t)).place ≡ (object_numbered d t.state).place

-- ---- before the same slot

-- "A second hold, or a release without one, changes nothing."
abbrev pub Again : Type 0
Again = (w : Bool) (d : ℕ) (s : MetadataRendererState) → wants d s ≡ w → wanting w d s ≡ s

-- "Of a hold and a release before the same slot, the later undoes the earlier."
abbrev pub Undone : Type 0
Undone = (w : Bool) (d : ℕ) (s : MetadataRendererState) → wants d s ≡ w → wanting w d (wanting (not w) d s) ≡ s
