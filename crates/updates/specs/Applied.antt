-- An applied update: `apply_update` and `apply_element`. Assumes nothing.
use Rattle.std.specs.Prelude.{ℕ, ◌-◌, ◌*◌, Bool, true, false, not, ◌&&◌, cond, List, eqb, get_or, set, replicate, Float}
use Rattle.std.specs.Float.{binary32}
use Rattle.std.specs.Float.Ieee.{of_bits}
use Rattle.vectors.specs.Vectors.{0·0f, zero_vec3}
use Rattle.timed.specs.Turns.{times}
use Rattle.timed.specs.InfoSizes.{element_infos}
use Rattle.timed.specs.Rules.{middle}
use Rattle.timed.specs.State.{Timed, no_element}
use Rattle.timed.specs.declared.state.BlockState.{BlockState}
use Rattle.timed.specs.declared.state.Track.{Track}
use Rattle.timed.specs.declared.state.DynamicSourceState.{DynamicSourceState}
use Rattle.timed.specs.declared.state.ElementRendererState.{ElementRendererState}
use Rattle.timed.specs.declared.state.MetadataRendererState.{MetadataRendererState}
use Rattle.updates.specs.Said.{Element, Update}
use Rattle.updates.specs.Stored.{objects_stored}

-- ---- what starts again

abbrev pub 0·707 : Float
0·707 = of_bits binary32 0x3f34fdf4

-- "Objects start at gain 0.707, size 0 and the origin"; R-3: "An object starts with send 0"; R-11: "A change in the number of objects .. end[s] all holds"
abbrev pub new_source : DynamicSourceState
new_source = record { gain = 0·707; size = 0·0f; place = zero_vec3; placed = false; wanted = false; held = false; send = 0·0f }

abbrev pub new_track : Track
new_track = record { now = false; future = zero_vec3 }

-- "all objects .. start again when their number changes": from n to n' of them
unfoldable pub next_sources : ℕ → ℕ → List DynamicSourceState → List DynamicSourceState
next_sources n n' sources = cond (eqb n n') sources (replicate 16 new_source)

-- "beds at gain 0.707; .. all beds, start again when their number changes"
unfoldable pub next_gains : ℕ → ℕ → List Float → List Float
next_gains n n' gains = cond (eqb n n') gains (replicate 18 0·707)

-- ---- an element

-- block b: its offset and ramp, not yet applied
abbrev pub block_given : Element → ℕ → List BlockState → List BlockState
block_given x b s = set s b (record { offset = (x.block b).offset; ramp = (x.block b).ramp; used = false })

unfoldable pub scheduled : Element → List BlockState → List BlockState
unfolding times
scheduled x s = times x.blocks 0 (block_given x) s

-- "Kept elements keep their old flags, targets and remaining ramp; only their blocks count as unapplied again." A new one has a flag, unset, for each of `dynamic` objects,
-- and no ramp.
unfoldable pub element_next : Bool → ℕ → Element → ElementRendererState → ElementRendererState
unfolding scheduled
element_next kept dynamic x s =
    record {
      blocks = x.blocks;
      flags = cond kept s.flags dynamic;
      remaining = cond kept s.remaining middle;
      schedule = scheduled x s.schedule;
      tracks = cond kept s.tracks (replicate 16 new_track);
    }

-- "keeps an element (same number of elements, blocks and objects)"; `same` is of all but the blocks
abbrev pub is_kept : Bool → ℕ → ℕ → Bool
is_kept same blocks blocks' = same && eqb blocks blocks'

-- the elements, and the infos
pub record Work : Type 0 where
  pub states : List ElementRendererState
  pub infos : List ℕ

unfoldable pub element_given : Bool → Update → ℕ → Work → Work
unfolding element_next objects_stored
element_given same u e w =
    let s = get_or w.states e no_element in
    let kept = is_kept same s.blocks (u.element e).blocks in
    record {
      states = set w.states e (element_next kept (u.objects - u.isf) (u.element e) s);
      infos = objects_stored (not kept) u.isf (u.element e) (e * element_infos) u.objects w.infos;
    }

-- the elements in order
unfoldable pub elements_applied : Bool → Update → List ElementRendererState → List ℕ → Work
unfolding times element_given
elements_applied same u states is = times u.elements 0 (element_given same u) (record { states = states; infos = is })

-- ---- the update

abbrev pub code_given : Update → ℕ → List ℕ → List ℕ
code_given u k cs = set cs k (u.code k)

unfoldable pub codes_given : Update → List ℕ → List ℕ
unfolding times
codes_given u cs = times 18 0 (code_given u) cs

-- Elements and objects are as many as at the last applied update, and by R-1 the dynamic objects too: "an element that would be kept starts afresh when an applied update's
-- number of dynamic objects differs from the last applied one's, as if its block count had changed"
abbrev pub is_same : MetadataRendererState → Update → Bool
is_same s u = eqb s.elements u.elements && eqb s.objects u.objects && eqb (s.objects - s.isf) (u.objects - u.isf)

-- the state and the infos once an update is applied at a stream position, from the elements that it leaves
abbrev pub state_given : ℕ → Update → MetadataRendererState → Work → Timed
state_given position u s w =
    record {
      state = record {
        initialized = true;
        payload = record { 0 = position };
        objects = u.objects;
        isf = u.isf;
        beds = u.beds;
        elements = u.elements;
        codes = codes_given u s.codes;
        gains = next_gains s.beds u.beds s.gains;
        states = w.states;
        sources = next_sources (s.objects - s.isf) (u.objects - u.isf) s.sources;
      };
      infos = w.infos;
    }

unfoldable pub applied : ℕ → Update → Timed → Timed
unfolding elements_applied codes_given next_gains next_sources
applied position u t = state_given position u t.state (elements_applied (is_same t.state u) u t.state.states t.infos)
