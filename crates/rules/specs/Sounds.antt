-- A push told by its samples: what sample t finds, what each channel sounds like, what the limiter meets and gives out, block by block. Assumes nothing.
use Rattle.std.specs.Prelude.{ℕ, zero, suc, ◌+◌, ◌*◌, ◌/◌, ◌<◌, cond, List, [], ◌∷◌, ◌++◌, eqb, length, take, drop, get_or, Float}
use Rattle.lowpass.specs.Lowpass.{output}
use Rattle.limiter.specs.Meters.{idle_meters}
use Rattle.limiter.specs.declared.meters.Meters.{Meters}
use Rattle.limiter.specs.Range.{Metered}
use Rattle.panning.specs.Setup.{Setup}
use Rattle.rules.specs.Parts.{0·0, Channels, none, joined}
use Rattle.rules.specs.Leaves.{Leaves}
use Rattle.rules.specs.Mix.{Moment, heard, fed}
use Rattle.rules.specs.Samples.{State, sounding, limited, metered, gain_after, applied_at, updated, slotted, framed, opened, pushed, waiting}
use Rattle.rules.specs.Refusals.{Args}
use Rattle.rules.specs.Calls.{updates_in, frame_of}

-- ---- blocks of 64 samples, one behind the other

-- block k
abbrev pub nth_block : Channels → ℕ → Channels
nth_block f k c = take 64 (drop (64 * k) (f c))

module _ (rate : ℕ) (g : Float) (f : Channels) where
  -- the gain that block k meets: g, then what the block before left, "g grows by length / rate, at most 1"
  abbrev pub gain_before : ℕ → Float
  gain_before zero = g
  gain_before (suc k) = gain_after 64 rate (gain_before k) (nth_block f k)

  -- the first n blocks, each limited by the gain that it meets
  abbrev pub limited_blocks : ℕ → Channels
  limited_blocks zero = none
  limited_blocks (suc n) = joined (limited_blocks n) (limited (gain_before n) (nth_block f n))

  -- their meters, each block's peak and the gain that it was scaled by
  abbrev pub blocks_metered : ℕ → List Meters
  blocks_metered zero = []
  blocks_metered (suc n) = blocks_metered n ++ metered (gain_before n) (nth_block f n)

-- R-2: sample i is one of block i / 64, and in size at most that block's peak × gain (rounded)
abbrev pub AllMetered : List Meters → Channels → Type 0
AllMetered ms g = (c i : ℕ) → c < 12 → i < length (g c) → Metered (get_or ms (i / 64) idle_meters) (get_or (g c) i 0·0)

-- ---- a push on the renderer r

-- updates at sample t, one after the other
abbrev pub applied_all : (L : Leaves) → ℕ → List L.Update → State L → State L
applied_all L t [] r = r
applied_all L t (u ∷ us) r = applied_all L t us (applied_at L t u r)

-- silence in the hall h
abbrev pub silent : Setup → Moment
silent h = record { hall = h; beds = []; objects = []; codes = []; inputs = λ i. 0·0; own = [] }

module _ (L : Leaves) (r : State L) (a : Args) where
  -- before sample t; and what sample t finds: the updates at t applied, a slot begun where one begins
  abbrev pub before : ℕ → State L
  before t = (framed L (frame_of L r a) t 0 (opened L a.rate r)).next

  abbrev pub met : ℕ → State L
  met t = slotted L (updated L t (updates_in L r a) (before t))

  -- what is heard at sample t
  abbrev pub moment_at : ℕ → Moment
  moment_at t = get_or (pushed L (frame_of L r a) r).moments t (silent r.setup)

  -- channel c at sample t, before the limiter: the sum, on channel 3 the low-pass's output
  abbrev pub sound_at : ℕ → ℕ → Float
  sound_at c t = cond (eqb c 3) (output (before t).filter (fed (moment_at t))) (heard (moment_at t) c)

  -- the first n samples, of the channels that the hall has
  abbrev pub sounds : ℕ → Channels
  sounds zero c = []
  sounds (suc n) c = sounds n c ++ sounding r.setup (λ c. sound_at c n ∷ []) c

  -- what the limiter meets, in order: the samples that waited, then the push's; how many whole blocks these are
  abbrev pub unlimited : Channels
  unlimited c = waiting L r c ++ sounds a.samples c

  abbrev pub whole : ℕ
  whole = (r.pending.count + a.samples) / 64
