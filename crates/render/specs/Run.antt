-- A run: samples within which no update falls and no slot starts, so that beds and objects stay as they are. What it asks, and what it leaves in twelve rows. Assumes nothing.
use Rattle.std.specs.Prelude.{ℕ, zero, suc, ◌+◌, ◌*◌, ◌≤◌, ◌<◌, ◌≡◌, List, [], ◌∷◌, ◌++◌, map, length, get_or, take, drop, replicate, Float}
use Rattle.std.specs.Float.{nan}
use Rattle.formats.specs.Areas.{row_count, row_places, place_count}
use Rattle.lowpass.specs.Lowpass.{next}
use Rattle.lowpass.specs.declared.BiquadLowpassState.{BiquadLowpassState}
use Rattle.panning.specs.Setup.{Setup}
use Rattle.panning.specs.Hall.{setup_of}
use Rattle.timed.specs.declared.state.DynamicSourceState.{DynamicSourceState}
use Rattle.rules.specs.Parts.{0·0}
use Rattle.rules.specs.Leaves.{Source, Bed}
use Rattle.rules.specs.Mix.{sample_at, samples_at, Moment, heard, fed}
use Rattle.rules.specs.Samples.{row}
use Rattle.render.specs.declared.Scene.{Scene}
use Rattle.render.specs.declared.Run.{Run}

-- ---- the rows that go in

-- twelve rows of +0.0
unfoldable pub silent_rows : List Float
silent_rows = replicate place_count 0·0

-- ---- the beds and the objects of a scene, as the rules list them

abbrev pub bed_with : ℕ → Float → Bed
bed_with code gain = record { code = code; gain = gain }

abbrev pub zipped : List ℕ → List Float → List Bed
zipped [] gs = []
zipped (c ∷ cs) [] = []
zipped (c ∷ cs) (g ∷ gs) = bed_with c g ∷ zipped cs gs

-- the first m of a table of beds: codes and gains
abbrev pub beds_of : ℕ → List ℕ → List Float → List Bed
beds_of m cs gs = zipped (take m cs) (take m gs)

abbrev pub plain_source : DynamicSourceState → Source
plain_source d = record { gain = d.gain; size = d.size; place = d.place; send = d.send }

-- the first m of a table of objects
abbrev pub sources_of : ℕ → List DynamicSourceState → List Source
sources_of m ds = map plain_source (take m ds)

-- ---- moments

-- Document 01: "PCM comes channel after channel, beds then objects". The moment at sample t of a frame of n samples a channel, in the
-- hall h.
abbrev pub moment_of : Setup → List Bed → List Source → List ℕ → List ℕ → ℕ → ℕ → Moment
moment_of h beds objects codes pcm n t =
    record {
      hall = h;
      beds = beds;
      objects = objects;
      codes = codes;
      inputs = λ i. sample_at pcm n i t;
      own = samples_at pcm n (length objects) (length codes) t;
    }

abbrev pub scene_at : Scene → List ℕ → List ℕ → ℕ → ℕ → Moment
scene_at s = moment_of (setup_of s.hall.now) (zipped s.codes.now s.gains.now) (map plain_source s.sources.now)

abbrev pub moments_in : Run → ℕ → Moment
moments_in r = scene_at r.scene r.input.codes.list.now r.input.pcm.now r.input.span.frame

-- ---- what is left: before the low-pass

-- Document 01, item 6: "Sums in the source's order". What is heard on channel c at the k samples from t on.
abbrev pub column : (ℕ → Moment) → ℕ → ℕ → ℕ → List Float
column m c t zero = []
column m c t (suc k) = heard (m t) c ∷ column m c (suc t) k

-- Twelve rows of 64 places, row c from place 64 × c on: each starts with its column, and +0.0 follows.
pub record Heard (m : ℕ → Moment) (t k : ℕ) (rows : List Float) : Type 0 where
  pub columns : (c : ℕ) → c < row_count → take k (drop (row_places * c) rows) ≡ column m c t k
  pub rest : (c i : ℕ) → c < row_count → k ≤ i → i < row_places → get_or rows (row_places * c + i) nan ≡ 0·0

-- ---- what is left: with the low-pass

-- the filter after the k samples from t on
abbrev pub filter_after : (ℕ → Moment) → BiquadLowpassState → ℕ → ℕ → BiquadLowpassState
filter_after m low t zero = low
filter_after m low t (suc k) = filter_after m (next low (fed (m t))) (suc t) k

-- channel c at those samples: each moment's `row`, channel 3 through the low-pass
abbrev pub row_run : (ℕ → Moment) → BiquadLowpassState → ℕ → ℕ → ℕ → List Float
row_run m low c t zero = []
row_run m low c t (suc k) = row (m t) low c ++ row_run m (next low (fed (m t))) c (suc t) k

-- What a run leaves: the rows, each with +0.0 past its k samples, and the filter.
pub record Passed (m : ℕ → Moment) (low : BiquadLowpassState) (t k : ℕ) (rows : List Float) (after : BiquadLowpassState) : Type 0 where
  pub columns : (c : ℕ) → c < row_count → take k (drop (row_places * c) rows) ≡ row_run m low c t k
  pub rest : (c i : ℕ) → c < row_count → k ≤ i → i < row_places → get_or rows (row_places * c + i) nan ≡ 0·0
  pub filter : after ≡ filter_after m low t k
