-- What the timed state and the metadata give to the rules: the interface of the crates `timed` and `records`, of which `theorem` gives the one instance. Assumes nothing.
use Rattle.std.specs.Prelude.{ℕ, Bool, List, Float}
use Rattle.vectors.specs.declared.Vec3.{Vec3}

-- a dynamic object: gain, size, the place where it is panned, and its send to the bass feed
pub record Source : Type 0 where
  pub gain : Float
  pub size : Float
  pub place : Vec3
  pub send : Float

-- a bed channel of the last applied update
pub record Bed : Type 0 where
  pub code : ℕ
  pub gain : Float

-- What refusals 10 to 14 look at: whether an update was applied, the number of dynamic objects, the bed codes.
pub record Shape : Type 0 where
  pub started : Bool
  pub objects : ℕ
  pub beds : List ℕ

pub record Leaves : Type 1 where
  -- the timed state, and an update as sent
  pub Meta : Type 0
  pub Update : Type 0
  -- before any update
  pub blank : Meta
  -- an update applied at a stream position; the start of a slot at a stream position
  pub apply : ℕ → Update → Meta → Meta
  pub slot : ℕ → Meta → Meta
  -- R-11: whether a hold of a dynamic object is asked for, and one that is asked for (true) or no more
  pub wants : ℕ → Meta → Bool
  pub want : Bool → ℕ → Meta → Meta
  -- what is heard: beds and dynamic objects, in order
  pub beds : Meta → List Bed
  pub objects : Meta → List Source
  pub shape : Meta → Shape
  -- the sample offset of an update in its frame, `never` where it only waits; its shape
  pub offset : Update → ℕ
  pub sent : Update → Shape
  -- R-12: the updates that wait, and none
  pub Waits : Type 0
  pub no_waits : Waits
  -- the updates of a frame that begins at a stream position and has so many samples: those that wait, in their order, then those of metadata bytes, in the order sent
  pub updates : ℕ → ℕ → Waits → List ℕ → List Update
  -- whether as few wait after such a frame as may, and what waits then
  pub fits : ℕ → ℕ → Waits → List ℕ → Bool
  pub settle : ℕ → ℕ → Waits → List ℕ → Waits
  -- no refusal 5, and no refusal 6, for metadata bytes
  pub laid_out : List ℕ → Bool
  pub in_range : List ℕ → Bool

-- whether an update was applied
abbrev pub started : (L : Leaves) → L.Meta → Bool
started L m = (L.shape m).started
