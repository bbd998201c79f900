-- The state block, from a renderer and to one. Document 01: "the renderer's state is a block of fixed length". It is 29,220 bytes: the small part's words (1,424), the object
-- infos as they are (24,576), 12 rows of 64 places for pending samples (3,072), the code of the hall's layout (4) and its table (144). What is added later stands behind these. Assumes nothing.
use Rattle.std.specs.Prelude.{ℕ, zero, suc, false, List, [], ◌∷◌, ◌++◌, get_or, take, drop, replicate}
use Rattle.words.specs.Words.{words_at}
use Rattle.formats.specs.Areas.{infos_bytes, row_count, places_format, place_count}
use Rattle.vectors.specs.declared.Vec3.{Vec3}
use Rattle.timed.specs.Slot.{middle}
use Rattle.timed.specs.State.{Timed}
use Rattle.timed.specs.declared.state.ElementRendererState.{ElementRendererState}
use Rattle.rules.specs.Parts.{0·0, 1·0, Places, zeros}
use Rattle.panning.specs.Setup.{Setup}
use Rattle.rules.specs.Samples.{Renderer, idle}
use Rattle.store.specs.declared.renderer.Renderer714.{Renderer714}
use Rattle.store.specs.Bytes.{bytes_of}
use Rattle.store.specs.Fields.{clock_of, clock_from, small_words, small_of, hall_format}
pub use Rattle.store.specs.FieldPlaces.{small_width, infos_at, places_at, hall_at, table_at, table_count, setup_count, size}

-- ---- a renderer's parts

abbrev pub small : Renderer Timed (List ℕ) → Renderer714
small r = record { rate = r.rate; clock = clock_from r.clock; limiter = r.limiter; filter = r.filter; pending = r.pending.count; state = r.meta.state }

-- the small part, with infos, places and the hall; what waits stands behind this block, in the area of `waits`
abbrev pub assembled : Renderer714 → List ℕ → Places → Setup → Renderer Timed (List ℕ)
assembled s is ps h =
    record {
      setup = h;
      rate = s.rate;
      clock = clock_of s.clock;
      limiter = s.limiter;
      filter = s.filter;
      meta = record { state = s.state; infos = is };
      pending = record { count = s.pending; places = ps };
      waits = [];
    }

-- ---- from a block and to a block

abbrev pub infos_of : List ℕ → List ℕ
infos_of b = take infos_bytes (drop infos_at b)

-- a row for each channel; there is none past the last
abbrev pub places_of : List ℕ → Places
places_of b c = get_or (places_format.get (words_at b places_at place_count) 0) c []

-- the layout's code, the hall table, "x, y and z as little-endian f32, no header, in channel order", and the hall
abbrev pub layout_of : List ℕ → ℕ
layout_of b = hall_format.get (words_at b hall_at hall_format.width) 0

abbrev pub table_in : List ℕ → List ℕ
table_in b = words_at b table_at table_count

abbrev pub setup_in : List ℕ → Setup
setup_in b = record { layout = layout_of b; table = table_in b }

unfoldable pub decode : List ℕ → Renderer Timed (List ℕ)
unfolding small_of
decode b = assembled (small_of (words_at b 0 small_width)) (infos_of b) (places_of b) (setup_in b)

-- n rows from row c on
unfoldable pub rows_from : ℕ → ℕ → Places → List (List ℕ)
rows_from zero c p = []
rows_from (suc n) c p = p c ∷ rows_from n (suc c) p

unfoldable pub place_bytes : Places → List ℕ
unfolding bytes_of rows_from
place_bytes p = bytes_of (places_format.put (rows_from row_count 0 p))

abbrev pub setup_words : Setup → List ℕ
setup_words h = hall_format.put h.layout ++ h.table

unfoldable pub setup_bytes : Setup → List ℕ
unfolding bytes_of
setup_bytes h = bytes_of (setup_words h)

unfoldable pub encode : Renderer Timed (List ℕ) → List ℕ
unfolding small_words bytes_of place_bytes setup_bytes
encode r = bytes_of (small_words (small r)) ++ (r.meta.infos ++ (place_bytes r.pending.places ++ setup_bytes r.setup))

-- ---- a new renderer. R-5: "a block that a making call has filled". No rate, the limiter's gain 1.0, all else but the hall 0

abbrev pub still : Vec3
still = record { x = 0·0; y = 0·0; z = 0·0 }

abbrev pub no_blocks : ElementRendererState
no_blocks =
    record {
      blocks = 0;
      flags = 0;
      remaining = middle;
      schedule = replicate 8 (record { offset = 0; ramp = 0; used = false });
      tracks = replicate 16 (record { now = false; future = still });
    }

-- the timed state before any update
unfoldable pub blank : Timed
blank =
    record {
      state = record {
        initialized = false;
        payload = record { 0 = 0 };
        objects = 0;
        isf = 0;
        beds = 0;
        elements = 0;
        codes = replicate 18 0;
        gains = replicate 18 0·0;
        states = replicate 2 no_blocks;
        sources = replicate 16 (record { gain = 0·0; size = 0·0; place = still; placed = false; wanted = false; held = false; send = 0·0 });
      };
      infos = replicate infos_bytes 0;
    }

-- `fresh` of the rules, with `blank`; `encode_fresh` of proofs/Fresh: its block is what making and reset fill
abbrev pub fresh_renderer : Setup → Renderer Timed (List ℕ)
fresh_renderer h =
    record {
      setup = h;
      rate = 0;
      clock = record { position = 0; phase = 0; start = 0 };
      limiter = record { gain = 1·0 };
      filter = idle;
      meta = blank;
      pending = record { count = 0; places = zeros };
      waits = [];
    }
