-- A reader may skip this file: the rows of a chunk: what sounds in them, and where they are laid in a state block. Assumes nothing.
use Rattle.std.specs.Prelude.{ℕ, ◌*◌, ◌≡◌, Bool, false, cond, List, [], get_or, take, drop, Float}
use Rattle.panning.specs.Setup.{Setup}
use Rattle.timed.specs.declared.state.MetadataRendererState.{MetadataRendererState}
use Rattle.rules.specs.Parts.{laid}
use Rattle.store.specs.Layout.{infos_at, hall_at, infos_of, places_of}
use Rattle.rules.specs.Mix.{Moment}
use Rattle.render.specs.Run.{beds_of, sources_of, moment_of}
use Rattle.render.specs.Listed.{ListsFit}
use Rattle.render.specs.declared.lists.Lists.{Lists}

-- "Samples before the first update are silent": what sounds of a timed state in the hall h, of whose objects the first are those of the frame
abbrev pub chunk_moment : Setup → MetadataRendererState → ℕ → List ℕ → List ℕ → ℕ → ℕ → Moment
chunk_moment h m objects = moment_of h (beds_of (cond m.initialized m.beds 0) m.codes m.gains) (sources_of (cond m.initialized objects 0) m.sources)

-- the lists are those of what sounds there, or nothing is said of them
abbrev pub Listing : Setup → MetadataRendererState → ℕ → List ℕ → Lists → Type 0
Listing h m objects codes = ListsFit h codes (beds_of (cond m.initialized m.beds 0) m.codes m.gains) (sources_of (cond m.initialized objects 0) m.sources)

-- the first bytes of a block, where its small part stands between calls
abbrev pub small_bytes : List ℕ → List ℕ
small_bytes b = take infos_at b

-- its last bytes, where its hall stands
abbrev pub hall_bytes_of : List ℕ → List ℕ
hall_bytes_of b = drop hall_at b

-- the first k places of each row behind the pending samples of its channel, where `here` has the channel: an absent one keeps its places. The small part's bytes, the infos and
-- the hall's bytes stay
pub record Laid (here : List Bool) (rows : List Float) (pending k : ℕ) (state state' : List ℕ) : Type 0 where
  pub small : small_bytes state' ≡ small_bytes state
  pub infos : infos_of state' ≡ infos_of state
  pub places : places_of state' ≡ (λ c. laid pending (cond (get_or here c false) (take k (drop (64 * c) rows)) []) (places_of state c))
  pub hall : hall_bytes_of state' ≡ hall_bytes_of state
