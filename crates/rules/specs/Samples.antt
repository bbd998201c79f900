-- The rules of document 01, a sample at a time. Assumes nothing.
use Rattle.std.specs.Prelude.{ℕ, zero, suc, ◌+◌, Bool, true, cond, not, ◌&&◌, ◌||◌, List, [], ◌∷◌, ◌++◌, leb, eqb, take, length, Float}
use Rattle.lowpass.specs.Lowpass.{output, next, new}
use Rattle.lowpass.specs.declared.BiquadLowpassState.{BiquadLowpassState}
use Rattle.limiter.specs.Limiter.{block_gain, scaled, grown}
use Rattle.limiter.specs.Meters.{block_meters}
use Rattle.limiter.specs.declared.meters.Meters.{Meters}
use Rattle.limiter.specs.declared.Limiter.{Limiter}
pub use Rattle.panning.specs.Setup.{Setup, hall_with}
use Rattle.panning.specs.Setup.{present}
use Rattle.rules.specs.Parts.{0·0, 1·0, Channels, none, joined, twelve, Places, floats, laid, zeros}
use Rattle.rules.specs.Leaves.{Leaves, started}
use Rattle.rules.specs.Mix.{sample_at, samples_at, Moment, heard, fed}

-- A frame that no refusal turned away: its rate, how many samples it has, its bed codes, the number of its objects, its PCM as bytes, and its updates.
pub record Frame (U : Type 0) : Type 0 where
  pub rate : ℕ
  pub samples : ℕ
  pub codes : List ℕ
  pub objects : ℕ
  pub pcm : List ℕ
  pub updates : List U

-- ---- the parts of a renderer

-- samples since the stream's start; samples since the slot's start, and the stream position of that start
pub record Clock : Type 0 where
  pub position : ℕ
  pub phase : ℕ
  pub start : ℕ

-- where `new`, a slot starts at the present sample
abbrev pub restarted : Bool → Clock → Clock
restarted new k = record { position = k.position; phase = cond new 0 k.phase; start = cond new k.position k.start }

-- n samples later, within a slot of 64 or at its end; the slots go on where `run`
abbrev pub ticked : Bool → ℕ → Clock → Clock
ticked run n k =
    let end = leb 64 (k.phase + n) in
    record { position = k.position + n; phase = cond run (cond end 0 (k.phase + n)) k.phase; start = cond (run && end) (k.start + 64) k.start }

-- the samples that wait for a whole block: how many of each channel that is there, and 64 places of each channel, of which they fill the first
pub record Pending : Type 0 where
  pub count : ℕ
  pub places : Places

-- n samples more of each channel that is there, behind those that wait
abbrev pub appended : ℕ → Channels → Pending → Pending
appended n xs p = record { count = p.count + n; places = λ c. laid p.count (xs c) (p.places c) }

-- where `whole`, none waits any more; the places keep their bits
abbrev pub emptied : Bool → Pending → Pending
emptied whole p = record { count = cond whole 0 p.count; places = p.places }

-- ---- the renderer

pub record Renderer (M W : Type 0) : Type 0 where
  -- the hall that it renders for: every call but an accepted making call keeps it
  pub setup : Setup
  -- 0: none yet
  pub rate : ℕ
  pub clock : Clock
  pub limiter : Limiter
  pub filter : BiquadLowpassState
  pub meta : M
  pub pending : Pending
  -- updates that lie ahead: an accepted push alone changes them, at its end
  pub waits : W

-- no rate yet: no coefficients and nothing fed
abbrev pub idle : BiquadLowpassState
idle = record { a1 = 0·0; a2 = 0·0; b0 = 0·0; b1 = 0·0; b2 = 0·0; x1 = 0·0; x2 = 0·0; y1 = 0·0; y2 = 0·0 }

-- R-5: "5.1.4 lacks channels 4 and 5, ..": a channel that the hall lacks has no samples
abbrev pub sounding : Setup → Channels → Channels
sounding h f c = cond (present h.layout c) (f c) []

-- ---- the limiter on twelve channels

abbrev pub limited : Float → Channels → Channels
limited g f c = scaled (block_gain g (twelve f)) (f c)

-- R-2: "The block's answer gains its peak before scaling and the gain that was used."
abbrev pub metered : Float → Channels → List Meters
metered g f = block_meters g (twelve f) ∷ []

abbrev pub gain_after : ℕ → ℕ → Float → Channels → Float
gain_after n rate g f = grown n rate (block_gain g (twelve f))

-- the twelve channels at one sample, channel 3 through the low-pass
abbrev pub row : Moment → BiquadLowpassState → Channels
row m low c = cond (eqb c 3) (output low (fed m) ∷ []) (heard m c ∷ [])

module _ (L : Leaves) where
  abbrev pub State : Type 0
  State = Renderer L.Meta L.Waits

  -- a new renderer for the hall h
  abbrev pub fresh : Setup → State
  fresh h =
      record {
        setup = h;
        rate = 0;
        clock = record { position = 0; phase = 0; start = 0 };
        limiter = record { gain = 1·0 };
        filter = idle;
        meta = L.blank;
        pending = record { count = 0; places = zeros };
        waits = L.no_waits;
      }

  -- ---- updates and slots

  -- "The first update, and any at a frame's offset 0, starts a new slot there."
  abbrev pub applied_at : ℕ → L.Update → State → State
  applied_at t u r =
      record {
        setup = r.setup;
        rate = r.rate;
        clock = restarted (not (started L r.meta) || eqb t 0) r.clock;
        limiter = r.limiter;
        filter = r.filter;
        meta = L.apply r.clock.position u r.meta;
        pending = r.pending;
        waits = r.waits;
      }

  -- "Updates are taken in stable order of sample offset": those whose offset is t, in the order sent. One at or past the frame's end is never reached.
  abbrev pub updated : ℕ → List L.Update → State → State
  updated t [] r = r
  updated t (u ∷ us) r = updated t us (cond (eqb (L.offset u) t) (applied_at t u r) r)

  -- "At the start of each 64-sample slot"
  abbrev pub slotted : State → State
  slotted r =
      record {
        setup = r.setup;
        rate = r.rate;
        clock = r.clock;
        limiter = r.limiter;
        filter = r.filter;
        meta = cond (started L r.meta && eqb r.clock.phase 0) (L.slot r.clock.start r.meta) r.meta;
        pending = r.pending;
        waits = r.waits;
      }

  -- ---- one sample

  -- "Samples before the first update are silent."
  abbrev pub moment : Frame L.Update → ℕ → Setup → L.Meta → Moment
  moment f t h m =
      record {
        hall = h;
        beds = cond (started L m) (L.beds m) [];
        objects = cond (started L m) (L.objects m) [];
        codes = f.codes;
        inputs = λ i. sample_at f.pcm f.samples i t;
        own = samples_at f.pcm f.samples f.objects (length f.codes) t;
      }

  -- what a call leaves and gives out, with the meters of the blocks given out and the moments of its samples
  pub record After : Type 0 where
    pub next : State
    pub given : Channels
    pub meters : List Meters
    pub moments : List Moment

  -- n samples more of each channel that is there: the low-pass after them, and the samples, which wait; the clock goes on from the first update
  abbrev pub settled : ℕ → BiquadLowpassState → Channels → State → State
  settled n low xs r =
      record {
        setup = r.setup;
        rate = r.rate;
        clock = ticked (started L r.meta) n r.clock;
        limiter = r.limiter;
        filter = low;
        meta = r.meta;
        pending = appended n xs r.pending;
        waits = r.waits;
      }

  -- "A block of 64 .. scale; then g grows by length / rate, at most 1": a whole block is given out
  abbrev pub closing : State → List Moment → After
  closing r ms =
      let whole = leb 64 r.pending.count in
      let block = sounding r.setup (floats r.pending.places) in
      record {
        next = record {
          setup = r.setup;
          rate = r.rate;
          clock = r.clock;
          limiter = record { gain = cond whole (gain_after 64 r.rate r.limiter.gain block) r.limiter.gain };
          filter = r.filter;
          meta = r.meta;
          pending = emptied whole r.pending;
          waits = r.waits;
        };
        given = cond whole (limited r.limiter.gain block) none;
        meters = cond whole (metered r.limiter.gain block) [];
        moments = ms;
      }

  -- a sample more
  abbrev pub passed : Moment → State → After
  passed m r = closing (settled 1 (next r.filter (fed m)) (sounding r.setup (row m r.filter)) r) (m ∷ [])

  abbrev pub sampled : Frame L.Update → ℕ → State → After
  sampled f t r = let s = slotted (updated t f.updates r) in passed (moment f t s.setup s.meta) s

  -- ---- frames

  -- the samples from t on, of which n are left
  abbrev pub framed : Frame L.Update → ℕ → ℕ → State → After
  framed f zero t r = record { next = r; given = none; meters = []; moments = [] }
  framed f (suc n) t r =
      let a = sampled f t r in
      let d = framed f n (suc t) a.next in
      record { next = d.next; given = joined a.given d.given; meters = a.meters ++ d.meters; moments = a.moments ++ d.moments }

  -- the first accepted frame sets the rate and the low-pass
  abbrev pub opened : ℕ → State → State
  opened rate r =
      let first = eqb r.rate 0 in
      record {
        setup = r.setup;
        rate = cond first rate r.rate;
        clock = r.clock;
        limiter = r.limiter;
        filter = cond first (new rate) r.filter;
        meta = r.meta;
        pending = r.pending;
        waits = r.waits;
      }

  unfoldable pub pushed : Frame L.Update → State → After
  pushed f r = framed f f.samples 0 (opened f.rate r)

  -- the samples that wait for a whole block
  abbrev pub waiting : State → Channels
  waiting r c = take r.pending.count (sounding r.setup (floats r.pending.places) c)

  -- "Flush treats the remainder as one shorter block."
  unfoldable pub flushed : State → After
  flushed r =
      record {
        next = record {
          setup = r.setup;
          rate = r.rate;
          clock = r.clock;
          limiter = record { gain = gain_after r.pending.count r.rate r.limiter.gain (waiting r) };
          filter = r.filter;
          meta = r.meta;
          pending = emptied true r.pending;
          waits = r.waits;
        };
        given = limited r.limiter.gain (waiting r);
        meters = metered r.limiter.gain (waiting r);
        moments = [];
      }
