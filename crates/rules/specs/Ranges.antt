-- The ranges of a renderer between calls. Document 01: "Stream positions lie from 0 to 2^40, .. pending samples and slot phase below 64, the slot's start plus phase at most the
-- stream's position, .. nothing pending without a rate, other fields as in frames; every block that an accepted call leaves lies within these." Assumes nothing.
use Rattle.std.specs.Prelude.{ℕ, ◌+◌, ◌≤◌, ◌<◌, ◌≡◌, ◌⊎◌, true, [], T, length, Float}
use Rattle.std.specs.Float.{binary32}
use Rattle.std.specs.Float.Ieee.{fits}
use Rattle.words.specs.Words.{Words}
use Rattle.lowpass.specs.declared.BiquadLowpassState.{BiquadLowpassState}
use Rattle.panning.specs.Setup.{Setup, table_right}
use Rattle.rules.specs.Leaves.{Leaves}
use Rattle.rules.specs.Samples.{State}
use Rattle.rules.specs.Refusals.{listed}

-- an f32 of any value, NaN and infinities too: what any bits hold
abbrev pub Fits : Float → Type 0
Fits x = T (fits binary32 x)

pub record FilterFits (f : BiquadLowpassState) : Type 0 where
  pub a1 : Fits f.a1
  pub a2 : Fits f.a2
  pub b0 : Fits f.b0
  pub b1 : Fits f.b1
  pub b2 : Fits f.b2
  pub x1 : Fits f.x1
  pub x2 : Fits f.x2
  pub y1 : Fits f.y1
  pub y2 : Fits f.y2

-- R-5: "layout code 0 for 7.1.4, then 1, 2, 3"; R-6: "a table that breaks these rules is a field outside its range", of "twelve records" of three f32, whatever the layout
pub record HallRanged (h : Setup) : Type 0 where
  pub layout : h.layout ≤ 3
  pub long : length h.table ≡ 36
  pub words : Words h.table
  pub right : table_right h.table ≡ true

-- `Within n m`: the timed state m lies in its ranges at the stream position n. Each sample of a push keeps these.
pub record Ranged (L : Leaves) (Within : ℕ → L.Meta → Type 0) (r : State L) : Type 0 where
  pub setup : HallRanged r.setup
  pub rate : (r.rate ≡ 0) ⊎ (listed r.rate ≡ true)
  pub position : r.clock.position ≤ 1099511627776
  pub phase : r.clock.phase < 64
  pub start : r.clock.start + r.clock.phase ≤ r.clock.position
  pub gain : Fits r.limiter.gain
  pub filter : FilterFits r.filter
  pub meta : Within r.clock.position r.meta
  pub pending : r.pending.count < 64
  pub idle : r.rate ≡ 0 → r.pending.count ≡ 0
  -- 64 words for each of the twelve channels
  pub long : (c : ℕ) → c < 12 → length (r.pending.places c) ≡ 64
  pub words : (c : ℕ) → Words (r.pending.places c)
  pub none : (c : ℕ) → 12 ≤ c → r.pending.places c ≡ []

-- between calls, what waits (R-12) too lies in its ranges there: `Ahead n ws`, at the stream position n
pub record AllRanged (L : Leaves) (Within : ℕ → L.Meta → Type 0) (Ahead : ℕ → L.Waits → Type 0) (r : State L) : Type 0 where
  pub renderer : Ranged L Within r
  pub ahead : Ahead r.clock.position r.waits
