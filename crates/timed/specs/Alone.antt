-- R-11: the object's panned position stops, "while gain, size, targets, flags and the ramp's countdown continue", and "Whether a slot ramps or goes straight is decided as without
-- the hold". Two states that are alike but for the marks and the place of one object are so after each slot. Assumes nothing.
use Rattle.std.specs.Prelude.{ℕ, ◌+◌, ◌<◌, ◌≡◌, Bool, true, cond, List, length, get_or, Option, Some, None}
use Rattle.vectors.specs.declared.Vec3.{Vec3}
use Rattle.vectors.specs.Target.{movable}
use Rattle.timed.specs.InfoSizes.{info_number}
use Rattle.timed.specs.Infos.{block_position}
use Rattle.timed.specs.Objects.{no_source, no_track}
use Rattle.timed.specs.Holds.{wanting}
use Rattle.timed.specs.Rules.{element_of}
use Rattle.timed.specs.State.{Timed, slot_at}
use Rattle.timed.specs.declared.state.Track.{Track}
use Rattle.timed.specs.declared.state.DynamicSourceState.{DynamicSourceState}
use Rattle.timed.specs.declared.state.ElementRendererState.{ElementRendererState}

-- where a track moves its object, if it does
abbrev pub target_of : Track → Option Vec3
target_of k = cond k.now (Some k.future) None

-- No block has object d at the speaker anchor, where the object's target is its own place, the held one.
abbrev pub Apart : ℕ → Timed → Type 0
Apart d t = (e b : ℕ) → b < (element_of t.state e).blocks → movable (block_position t.infos (info_number e (t.state.isf + d) b)).anchor ≡ true

-- object k: the same, or it is object d, and the same but for marks and place
pub record SourceAlike (d k : ℕ) (a b : DynamicSourceState) : Type 0 where
  pub gain : a.gain ≡ b.gain
  pub size : a.size ≡ b.size
  pub placed : a.placed ≡ b.placed
  pub send : a.send ≡ b.send
  pub others : (k ≡ d → ⊥) → a ≡ b

-- its track: the same, or it is object d's, and the flag the same, and where `apart` the target
pub record TrackAlike (apart : Type 0) (d k : ℕ) (a b : Track) : Type 0 where
  pub now : a.now ≡ b.now
  pub target : k ≡ d → apart → target_of a ≡ target_of b
  pub others : (k ≡ d → ⊥) → a ≡ b

pub record SourcesAlike (d : ℕ) (a b : List DynamicSourceState) : Type 0 where
  pub long : length a ≡ length b
  pub each : (k : ℕ) → SourceAlike d k (get_or a k no_source) (get_or b k no_source)

pub record TracksAlike (apart : Type 0) (d : ℕ) (a b : List Track) : Type 0 where
  pub long : length a ≡ length b
  pub each : (k : ℕ) → TrackAlike apart d k (get_or a k no_track) (get_or b k no_track)

pub record ElementAlike (apart : Type 0) (d : ℕ) (a b : ElementRendererState) : Type 0 where
  pub blocks : a.blocks ≡ b.blocks
  pub flags : a.flags ≡ b.flags
  pub remaining : a.remaining ≡ b.remaining
  pub schedule : a.schedule ≡ b.schedule
  pub tracks : TracksAlike apart d a.tracks b.tracks

-- the states and the infos, where `apart` is what keeps object d from the speaker anchor
pub record AlikeBut (apart : Type 0) (d : ℕ) (a b : Timed) : Type 0 where
  pub initialized : a.state.initialized ≡ b.state.initialized
  pub payload : a.state.payload ≡ b.state.payload
  pub objects : a.state.objects ≡ b.state.objects
  pub isf : a.state.isf ≡ b.state.isf
  pub beds : a.state.beds ≡ b.state.beds
  pub elements : a.state.elements ≡ b.state.elements
  pub codes : a.state.codes ≡ b.state.codes
  pub gains : a.state.gains ≡ b.state.gains
  pub states : length a.state.states ≡ length b.state.states
  pub each : (e : ℕ) → ElementAlike apart d (element_of a.state e) (element_of b.state e)
  pub sources : SourcesAlike d a.state.sources b.state.sources
  pub infos : a.infos ≡ b.infos

-- a hold or a release that is asked for makes such states of one
abbrev pub AskedAlike : Type 1
AskedAlike = (apart : Type 0) (w : Bool) (d : ℕ) (t : Timed) → AlikeBut apart d t (record { state = wanting w d t.state; infos = t.infos })

-- and a slot keeps them so
abbrev pub HoldAlone : Type 1
HoldAlone = (apart : Type 0) (start d : ℕ) (a b : Timed) → (apart → Apart d a) → AlikeBut apart d a b → AlikeBut apart d (slot_at start a) (slot_at start b)
