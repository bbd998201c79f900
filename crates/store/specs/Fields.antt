-- The small part of the state block and its hall: each struct's format, with each field's range. Document 01: "the renderer's state is a block of fixed length, its layout and
-- each field's range written in docs/, its floats of any bits". Its places, its words, what words say and the range test follow from these. What is added to a source goes last
-- in it. Assumes nothing.
use Rattle.std.specs.Prelude.{ℕ, Bool, ◌||◌, List, eqb, Float}
use Rattle.formats.specs.Format.{Format, u32_where, u32_to, u32_below, usize_to, u8_to, flag, three_flags, float, u64_to, ◌⊗◌, array, struct, ranged}
pub use Rattle.formats.specs.Vector.{vec_format}
use Rattle.lowpass.specs.declared.BiquadLowpassState.{BiquadLowpassState}
use Rattle.clock.specs.declared.StreamSample.{StreamSample}
use Rattle.timed.specs.declared.state.BlockState.{BlockState}
use Rattle.timed.specs.declared.state.Track.{Track}
use Rattle.timed.specs.declared.state.DynamicSourceState.{DynamicSourceState}
use Rattle.timed.specs.declared.state.ElementRendererState.{ElementRendererState}
use Rattle.timed.specs.declared.state.MetadataRendererState.{MetadataRendererState}
use Rattle.rules.specs.Refusals.{listed}
use Rattle.rules.specs.Samples as rules
use Rattle.store.specs.declared.renderer.Clock.{Clock}
use Rattle.store.specs.declared.renderer.Renderer714.{Renderer714}
use Rattle.store.specs.Singles.{FilterSingles, SourceSingles, TrackSingles, Brief}

-- "Stream positions lie from 0 to 2^40"
abbrev pub longest : ℕ
longest = 1099511627776

-- ---- entries of tables

-- a dynamic object; whether it is placed, a hold of it asked for, and it held, in one word
abbrev pub source_format : Format DynamicSourceState
source_format =
    ranged SourceSingles
    (struct
    (λ s. (s.gain, (s.size, (s.place, ((s.placed, (s.wanted, s.held)), s.send)))))
    (λ (gain, (size, (place, ((placed, (wanted, held)), send)))).
    record { gain = gain; size = size; place = place; placed = placed; wanted = wanted; held = held; send = send })
    (float ⊗ float ⊗ vec_format ⊗ three_flags ⊗ float))

-- a block: offset and ramp, each plus 2^20, and whether it was applied; "an offset or ramp outside ±1,048,576" is refused in a frame, and "other fields as in frames"
abbrev pub block_format : Format BlockState
block_format =
    ranged Brief
    (struct (λ b. (b.offset, (b.ramp, b.used))) (λ (offset, (ramp, used)). record { offset = offset; ramp = ramp; used = used }) (u32_to 2097152 ⊗ u32_to 2097152 ⊗ flag))

-- whether an object moves, and its target
abbrev pub track_format : Format Track
track_format = ranged TrackSingles (struct (λ t. (t.now, t.future)) (λ (now, future). record { now = now; future = future }) (flag ⊗ vec_format))

-- an element: "8 blocks each", flags for "16 of them dynamic", a remaining ramp "to 2^20", plus 2^47; its tables
abbrev pub element_head : ElementRendererState → ℕ × (ℕ × ℕ)
element_head e = (e.blocks, (e.flags, e.remaining))

abbrev pub head_format : Format (ℕ × (ℕ × ℕ))
head_format = usize_to 8 ⊗ usize_to 16 ⊗ u64_to 140737489403904

abbrev pub element_format : Format ElementRendererState
element_format =
    struct
    (λ e. (element_head e, (e.schedule, e.tracks)))
    (λ ((blocks, (flags, remaining)), (schedule, tracks)). record { blocks = blocks; flags = flags; remaining = remaining; schedule = schedule; tracks = tracks })
    (head_format ⊗ array 8 block_format ⊗ array 16 track_format)

-- ---- the small part

-- five coefficients, then four past values
abbrev pub filter_format : Format BiquadLowpassState
filter_format =
    ranged FilterSingles
    (struct
    (λ f. (f.a1, (f.a2, (f.b0, (f.b1, (f.b2, (f.x1, (f.x2, (f.y1, f.y2)))))))))
    (λ (a1, (a2, (b0, (b1, (b2, (x1, (x2, (y1, y2)))))))). record { a1 = a1; a2 = a2; b0 = b0; b1 = b1; b2 = b2; x1 = x1; x2 = x2; y1 = y1; y2 = y2 })
    (float ⊗ float ⊗ float ⊗ float ⊗ float ⊗ float ⊗ float ⊗ float ⊗ float))

abbrev pub payload_format : Format StreamSample
payload_format = struct (λ p. p.0) (λ n. record { 0 = n }) (u64_to longest)

-- initialized, the last applied update's position, objects, isf, beds, elements: "up to 32 objects in all, 16 of them dynamic, 18 bed channels .., 2 elements"
abbrev pub Counts : Type 0
Counts = Bool × (StreamSample × (ℕ × (ℕ × (ℕ × ℕ))))

abbrev pub counts_of : MetadataRendererState → Counts
counts_of s = (s.initialized, (s.payload, (s.objects, (s.isf, (s.beds, s.elements)))))

abbrev pub counts_format : Format Counts
counts_format = flag ⊗ payload_format ⊗ usize_to 32 ⊗ usize_to 255 ⊗ usize_to 18 ⊗ usize_to 2

-- bed codes and gains, sources, elements
abbrev pub Tables : Type 0
Tables = List ℕ × (List Float × (List DynamicSourceState × List ElementRendererState))

abbrev pub tables_of : MetadataRendererState → Tables
tables_of s = (s.codes, (s.gains, (s.sources, s.states)))

abbrev pub tables_format : Format Tables
tables_format = array 18 (u8_to 17) ⊗ array 18 float ⊗ array 16 source_format ⊗ array 2 element_format

abbrev pub state_format : Format MetadataRendererState
state_format =
    struct
    (λ s. (counts_of s, tables_of s))
    (λ ((initialized, (payload, (objects, (isf, (beds, elements))))), (codes, (gains, (sources, states)))).
    record {
      initialized = initialized;
      payload = payload;
      objects = objects;
      isf = isf;
      beds = beds;
      elements = elements;
      codes = codes;
      gains = gains;
      states = states;
      sources = sources;
    })
    (counts_format ⊗ tables_format)

-- the code's clock and the rules'
abbrev pub clock_of : Clock → rules.Clock
clock_of k = record { position = k.position.0; phase = k.phase; start = k.start.0 }

abbrev pub clock_from : rules.Clock → Clock
clock_from k = record { position = record { 0 = k.position }; start = record { 0 = k.start }; phase = k.phase }

-- rate (0: no frame yet), phase, position, slot start, limiter gain, low-pass, pending; "pending samples and slot phase below 64"
abbrev pub Basics : Type 0
Basics = ℕ × (ℕ × (ℕ × (ℕ × (Float × (BiquadLowpassState × ℕ)))))

abbrev pub basics_of : Renderer714 → Basics
basics_of s = (s.rate, (s.clock.phase, (s.clock.position.0, (s.clock.start.0, (s.limiter.gain, (s.filter, s.pending))))))

abbrev pub basics_format : Format Basics
basics_format = u32_where (λ n. eqb n 0 || listed n) ⊗ u32_below 64 ⊗ u64_to longest ⊗ u64_to longest ⊗ float ⊗ filter_format ⊗ u32_below 64

-- each field in its own range
abbrev pub small_format : Format Renderer714
small_format =
    struct
    (λ s. (basics_of s, s.state))
    (λ ((rate, (phase, (position, (start, (gain, (filter, pending)))))), state).
    record {
      rate = rate;
      clock = clock_from (record { position = position; phase = phase; start = start });
      limiter = record { gain = gain };
      filter = filter;
      pending = pending;
      state = state;
    })
    (basics_format ⊗ state_format)

unfoldable pub small_words : Renderer714 → List ℕ
small_words = small_format.put

unfoldable pub small_of : List ℕ → Renderer714
small_of w = small_format.get w 0

-- ---- the hall. R-5: "layout code 0 for 7.1.4, then 1, 2, 3"

abbrev pub hall_format : Format ℕ
hall_format = u32_to 3
