-- R-11, "Hold an object while it moves": what the host asks for, and what is in effect. Within a slot `wanted` is the hold in effect and `held` the one of the slot before; from its
-- end on they are one. So "of a hold and a release before the same slot, the later undoes the earlier". Assumes nothing.
use Rattle.std.specs.Prelude.{ℕ, ◌-◌, Bool, not, cond, List, get_or, set, take}
use Rattle.std.specs.List.{list_all}
use Rattle.timed.specs.Turns.{times}
use Rattle.timed.specs.Objects.{no_source}
use Rattle.timed.specs.declared.state.DynamicSourceState.{DynamicSourceState}
use Rattle.timed.specs.declared.state.MetadataRendererState.{MetadataRendererState}

-- the state with other dynamic objects
abbrev pub with_sources : List DynamicSourceState → MetadataRendererState → MetadataRendererState
with_sources sources s =
    record {
      initialized = s.initialized;
      payload = s.payload;
      objects = s.objects;
      isf = s.isf;
      beds = s.beds;
      elements = s.elements;
      codes = s.codes;
      gains = s.gains;
      states = s.states;
      sources = sources;
    }

abbrev pub with_marks : Bool → Bool → DynamicSourceState → DynamicSourceState
with_marks wanted held s = record { gain = s.gain; size = s.size; place = s.place; placed = s.placed; wanted = wanted; held = held; send = s.send }

-- ---- the host asks

-- whether a hold of object d is asked for
abbrev pub wants : ℕ → MetadataRendererState → Bool
wants d s = (get_or s.sources d no_source).wanted

-- one is, or none any more
unfoldable pub wanting : Bool → ℕ → MetadataRendererState → MetadataRendererState
wanting w d s = let o = get_or s.sources d no_source in with_sources (set s.sources d (with_marks w o.held o)) s

-- ---- a slot's end

abbrev pub mark_settled_at : ℕ → List DynamicSourceState → List DynamicSourceState
mark_settled_at d sources = let o = get_or sources d no_source in set sources d (with_marks o.wanted o.wanted o)

-- of each of the dynamic objects, those that the host can name
unfoldable pub holds_settled : MetadataRendererState → MetadataRendererState
unfolding times
holds_settled s = with_sources (times (s.objects - s.isf) 0 mark_settled_at s.sources) s

-- ---- a reader may skip this: what the code asks before it takes a slot

-- an object's hold in effect is the one that is asked for
abbrev pub is_settled : DynamicSourceState → Bool
is_settled o = cond o.wanted o.held (not o.held)

-- so is each of the first n objects'
unfoldable pub all_settled : List DynamicSourceState → ℕ → Bool
all_settled sources n = list_all is_settled (take n sources)
