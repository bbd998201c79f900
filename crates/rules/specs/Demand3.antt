-- Demand 3: one theorem about a whole list of calls, from a block that a making call has filled. Assumes nothing.
use Rattle.std.specs.Prelude.{ℕ, ◌+◌, ◌*◌, ◌≤◌, ◌<◌, ◌≡◌, Bool, true, false, List, [], ◌∷◌, T, length, get_or, Float}
use Rattle.std.specs.Float.{binary32}
use Rattle.std.specs.Float.Ieee.{to_bits}
use Rattle.words.specs.Words.{Bytes, word, float_at}
use Rattle.ieee.specs.Units.{F32, Gain}
use Rattle.ieee.specs.Bounds.{All}
use Rattle.limiter.specs.Range.{MetersInRange}
use Rattle.panning.specs.Setup.{Setup, hall_with, built_in_table, table_right, present}
use Rattle.lowpass.specs.declared.BiquadLowpassState.{BiquadLowpassState}
use Rattle.rules.specs.Parts.{0·0, Tame, floats}
use Rattle.rules.specs.Leaves.{Leaves}
use Rattle.rules.specs.Samples.{State, fresh}
use Rattle.rules.specs.Making.{table_words, hall_of}
use Rattle.rules.specs.Calls.{Call, push, flush, reset, make, make_with, mark, find, Answer, refused, rendered, nothing, cleared, marked, place, is_refused, given, meters_of, step, run, final, kept, accepted}
use Rattle.rules.specs.Promises.{count_on, AllHold}
use Rattle.rules.specs.Ringing.{AllRing}
use Rattle.rules.specs.BlockCalls.{Layout, Outcome, stride_of, out_of, made, run_on, final_on, kept_on, accepted_on, seen_on, told}

-- how many samples an answer gives out on each channel that is there, as channel 0 is in every hall
abbrev pub ready : Answer → ℕ
ready (refused n a b) = 0
ready (rendered g m) = length (g 0)
ready nothing = 0
ready cleared = 0
ready (marked c) = 0
ready (place p) = 0

-- whether an answer tells of a renderer that is another after it
abbrev pub changes : Answer → Bool
changes (refused n a b) = false
changes (rendered g m) = true
changes nothing = false
changes cleared = true
changes (marked c) = c
changes (place p) = false

-- What a call leaves of the output, in the hall h.
pub record GivenOut (h : Setup) (stride : ℕ) (lent : List ℕ) (o : Outcome) : Type 0 where
  pub fits : ready o.answer ≤ stride
  pub long : length o.out ≡ length lent
  -- "channel c starts at c × stride and only its ready samples are written": as many on each channel, each in its place; any other byte stays.
  -- R-5: "Output places of absent channels are not written."
  pub each : (c : ℕ) → c < 12 → length (given o.answer c) ≡ count_on h (ready o.answer) c
  pub placed : (c i : ℕ) → c < 12 → T (present h.layout c) → i < ready o.answer
      → word o.out (4 * (c * stride + i)) ≡ to_bits binary32 (get_or (given o.answer c) i 0·0)
  pub beside : (c i : ℕ) → c < 12 → 4 * count_on h (ready o.answer) c ≤ i → i < 4 * stride → get_or o.out (4 * (c * stride) + i) 0 ≡ get_or lent (4 * (c * stride) + i) 0
  pub past : (i : ℕ) → 48 * stride ≤ i → get_or o.out i 0 ≡ get_or lent i 0
  -- "all samples given out are finite and from -1 to 1", read from the output's bytes
  pub tame : (c i : ℕ) → c < 12 → T (present h.layout c) → i < ready o.answer → Tame (float_at o.out (4 * (c * stride + i)))
  -- R-2: the peak is finite and at least 0, the gain above 0 and at most 1
  pub meters : MetersInRange (meters_of o.answer)

-- the nine numbers of the low-pass: its coefficients and its memory
abbrev pub nine : BiquadLowpassState → List Float
nine f = f.a1 ∷ f.a2 ∷ f.b0 ∷ f.b1 ∷ f.b2 ∷ f.x1 ∷ f.x2 ∷ f.y1 ∷ f.y2 ∷ []

-- No bad number stays inside: the limiter's gain is finite, above 0 and at most 1; the low-pass's numbers are finite, and so is each sample in a place.
pub record Clean (L : Leaves) (r : State L) : Type 0 where
  pub gain : Gain r.limiter.gain
  pub filter : All F32 (nine r.filter)
  pub places : (c : ℕ) → c < 12 → All F32 (floats r.pending.places c)

-- the bytes that a call lends are bytes
abbrev pub Lent : Call → Type 0
Lent (push a) = Bytes a.pcm × Bytes a.meta × Bytes a.out × Bytes a.codes
Lent (flush out stride) = Bytes out
Lent reset = Unit {0}
Lent (make n) = Unit {0}
Lent (make_with n t) = Bytes t
Lent (mark w d) = Unit {0}
Lent (find m) = Unit {0}

abbrev pub AllLent : List Call → Type 0
AllLent [] = Unit {0}
AllLent (c ∷ cs) = Lent c × AllLent cs

-- the call is a making call, for the hall h
abbrev pub Makes : Call → Setup → Type 0
Makes (push a) h = ⊥
Makes (flush out stride) h = ⊥
Makes reset h = ⊥
Makes (make n) h = h ≡ hall_with n
Makes (make_with n t) h = h ≡ hall_of n t
Makes (mark w d) h = ⊥
Makes (find m) h = ⊥

-- before each call of the list, and after the last
abbrev pub AllClean : (L : Leaves) → State L → List Call → Type 0
AllClean L r [] = Clean L r
AllClean L r (c ∷ cs) = Clean L r × AllClean L (step L r c).next cs

module _ (L : Leaves) (B : Layout L) where
  -- of each call on its block, in the hall that the rules have then
  abbrev pub AllGivenOut : State L → List ℕ → List Call → Type 0
  AllGivenOut r b [] = Unit {0}
  AllGivenOut r b (c ∷ cs) = GivenOut r.setup (stride_of c) (out_of c) (made L B c b) × AllGivenOut (step L r c).next (made L B c b).state cs

  -- For the calls cs in a row from the block b that was made for the hall h.
  pub record Demand3 (h : Setup) (b : List ℕ) (cs : List Call) : Type 0 where
    -- the start is a new renderer
    pub start : b ≡ B.encode (fresh L h)
    -- every sample given out is in its place, finite and from -1 to 1
    pub range : AllGivenOut (fresh L h) b cs
    -- every answer and every output is what the rules work out from a fresh renderer and the list, with no block
    pub seen : seen_on L B b cs ≡ told L B (fresh L h) cs
    -- the block at the end is that of the renderer that the rules work out
    pub block : final_on L B b cs ≡ B.encode (final L (fresh L h) cs)
    -- nothing but finite numbers stays in the limiter, the low-pass and the samples that wait
    pub clean : AllClean L (fresh L h) cs
    -- what accepted pushes sound like and what they owe their objects; flushes; resets; renderers made; holds, releases and searches
    pub calls : AllHold L (fresh L h) cs
    -- what the low-pass gives is at most twice the largest that it has been fed since the start, a reset or a making call, and a loud past leaves it in time
    pub rings : AllRing L [] (fresh L h) cs
    -- "the list without its refused calls gives the same answers, samples and final state": on bytes, and for the rules' own results with their moments
    pub erased : run_on L B b (kept_on L B b cs) ≡ accepted_on L B (run_on L B b cs)
    pub left : final_on L B b (kept_on L B b cs) ≡ final_on L B b cs
    pub forgotten : run L (fresh L h) (kept L (fresh L h) cs) ≡ accepted L (run L (fresh L h) cs)
    pub same : final L (fresh L h) (kept L (fresh L h) cs) ≡ final L (fresh L h) cs

  -- Document 01, demand 3, for every list of calls with any arguments. R-5: "From now on a new renderer is a block that a making call has filled": from what an accepted one, for
  -- any layout and, by R-6, with any table, leaves of a block of any bytes. A reset renderer, "what reset leaves of a block that came from a new one by calls in a row", is met inside such lists.
  abbrev pub EveryList : Type 0
  EveryList =
      (b : List ℕ) → Bytes b → (c : Call) → Lent c → (h : Setup) → Makes c h → is_refused (made L B c b).answer ≡ false
      → (cs : List Call) → AllLent cs → Demand3 h (made L B c b).state cs

  -- and every layout can be made in every block of the right length
  abbrev pub EveryLayout : Type 0
  EveryLayout = (b : List ℕ) → length b ≡ B.size → (n : ℕ) → n ≤ 3 → (made L B (make n) b).answer ≡ cleared

  -- R-6: with every table that passes 16, 17 and 18
  abbrev pub EveryTable : Type 0
  EveryTable =
      (b : List ℕ) → length b ≡ B.size → (n : ℕ) → n ≤ 3 → (t : List ℕ) → length t ≡ 144 → table_right (table_words t) ≡ true
      → (made L B (make_with n t) b).answer ≡ cleared

  -- "With the built-in values loaded, the samples equal those without a table": the answer and the block are the same, so all that follows is
  abbrev pub BuiltInAlike : Type 0
  BuiltInAlike = (b : List ℕ) (n : ℕ) (t : List ℕ) → length t ≡ 144 → table_words t ≡ built_in_table → made L B (make_with n t) b ≡ made L B (make n) b

  -- "A second hold, or a release without one, changes nothing", and a search does not: no byte of the block
  abbrev pub LeftAlone : Type 0
  LeftAlone = (b : List ℕ) (c : Call) → changes (made L B c b).answer ≡ false → (made L B c b).state ≡ b

  -- R-13, "The renderer's present layout and hall table apply.": and nothing else of the renderer
  abbrev pub FindAlike : Type 0
  FindAlike = (r s : State L) (mask : ℕ) → r.setup ≡ s.setup → (step L r (find mask)).answer ≡ (step L s (find mask)).answer

  -- "every block that an accepted call leaves lies within these": from a block of any bytes
  abbrev pub Keeps : Type 0
  Keeps = (b : List ℕ) → Bytes b → (c : Call) → Lent c → is_refused (made L B c b).answer ≡ false → B.valid (made L B c b).state ≡ true
