-- What each call promises on the renderer that it finds: a push that was accepted, a flush, a reset, a making call, a hold or a release, a search. Assumes nothing.
use Rattle.std.specs.Prelude.{ℕ, suc, ◌+◌, ◌*◌, ◌%◌, ◌≤◌, ◌<◌, ◌≡◌, ◌⊎◌, Bool, true, false, cond, not, ◌||◌, List, [], ◌∷◌, T, leb, length, get_or, drop, Some}
use Rattle.std.specs.Float.{binary32}
use Rattle.std.specs.Float.Ieee.{eq, to_bits}
use Rattle.words.specs.Words.{Bytes}
use Rattle.ieee.specs.Bounds.{All}
use Rattle.mixing.specs.FrameSamples.{all_pass}
use Rattle.lowpass.specs.Lowpass.{next}
use Rattle.limiter.specs.Meters.{call_meters}
use Rattle.beds.specs.declared.Route.TheVariants.{Bass, Folded, Direct}
use Rattle.beds.specs.Routes.{route_of, bass_gain}
use Rattle.beds.specs.Positions.{bed_position}
use Rattle.beds.specs.Matching.{matching}
use Rattle.beds.specs.BedTerms.{alone}
use Rattle.panning.specs.Coefficients.{between, 8·0, squares, AddsUp, Each}
use Rattle.panning.specs.Setup.{Setup, hall_with, present, SpeakerOf, speakers_in, terms_in, pan_in}
use Rattle.rules.specs.Parts.{0·0}
use Rattle.rules.specs.Leaves.{Leaves, Source, Bed, started}
use Rattle.rules.specs.Mix.{object_terms, send_of, object_adds, adds_of, sample_at, samples_at, fed, fed_by_beds}
use Rattle.rules.specs.Samples.{State, fresh, limited, metered, gain_after, slotted, pushed, waiting}
use Rattle.rules.specs.Refusals.{Args, clear, stop, room, early, never}
use Rattle.rules.specs.Making.{table_found, hall_of}
use Rattle.rules.specs.Calls.{Call, push, flush, reset, make, make_with, mark, find, refused, rendered, nothing, cleared, marked, place, given, updates_in, frame_of, found, answered, with_waits, ahead_after, Result, step}
use Rattle.finding.specs.Search.{search}
use Rattle.rules.specs.Order.{at_offset}
use Rattle.rules.specs.Sounds.{gain_before, limited_blocks, blocks_metered, AllMetered, applied_all, before, met, moment_at, sound_at, unlimited, whole}

-- how many samples channel c has where those that are there have n: none where the hall lacks it
abbrev pub count_on : Setup → ℕ → ℕ → ℕ
count_on h n c = cond (present h.layout c) n 0

-- ---- an object

abbrev pub nobody : Source
nobody = record { gain = 0·0; size = 0·0; place = record { x = 0·0; y = 0·0; z = 0·0 }; send = 0·0 }

-- R-3: "an object whose gain or send is zero"
abbrev pub unsent : Source → Bool
unsent s = eq s.gain 0·0 || eq s.send 0·0

-- "the exact squares of its eleven coefficients add up to its gain g within g × 2^-20 + 2^-140": its terms are all that it adds besides its send; each is finite and from
-- 0 to 8, on a speaker that the hall h has, one of the eleven channels that are not 3, and no two are on one channel. R-5: "the square sum counts the full-range speakers
-- present".
pub record Squares (h : Setup) (s : Source) : Type 0 where
  pub channels : Each (λ t. SpeakerOf h.layout t.channel) (object_terms h s)
  pub each : Each (λ t. T (between 0·0 8·0 t.coefficient)) (object_terms h s)
  pub once : (c : ℕ) → length (object_adds h s c) ≤ 1
  pub sum : AddsUp (squares (speakers_in h.layout) (object_terms h s)) s.gain

-- ---- a bed

-- one that is mixed: the input that feeds it is there, and its code is not 6
pub record Matched (codes : List ℕ) (b : Bed) : Type 0 where
  pub input : ℕ
  pub there : input < length codes
  pub feeds : matching b.code codes ≡ Some input
  pub supported : b.code ≡ 6 → ⊥

-- Panned at its place, as an object of size zero: its terms are on the speakers that are there, and the squares of its coefficients add up to its gain.
pub record BedPanned (h : Setup) (b : Bed) : Type 0 where
  pub adds : (c : ℕ) → adds_of h b c ≡ pan_in h (bed_position b.code) b.gain 0·0 c
  pub channels : Each (λ t. SpeakerOf h.layout t.channel) (terms_in h (bed_position b.code) b.gain 0·0)
  pub sum : AddsUp (squares (speakers_in h.layout) (terms_in h (bed_position b.code) b.gain 0·0)) b.gain

-- What a bed adds in the hall h. "The two LFE codes .. go to channel 3" and a bed whose speaker is there to that one, with its gain. R-5: "A bed whose speaker is absent is panned
-- at its `bed_channel_position`", as codes 11, 12, 15 and 16 always are. So none is left out.
pub record BedHeard (h : Setup) (b : Bed) : Type 0 where
  pub bass : route_of b.code ≡ Bass → (c : ℕ) → adds_of h b c ≡ alone 3 (bass_gain b.gain) c
  pub direct : (k : ℕ) → route_of b.code ≡ Direct k → present h.layout k ≡ true → (c : ℕ) → adds_of h b c ≡ alone k b.gain c
  pub panned : (k : ℕ) → route_of b.code ≡ Direct k → present h.layout k ≡ false → BedPanned h b
  pub folded : route_of b.code ≡ Folded → BedPanned h b

-- ---- a push that was accepted, on the renderer r that the rules worked out from the list's start

-- pcm and qcm are as long, and alike but for row j of n words; that row of qcm is one that refusal 8 lets pass
pub record Replaced (n j : ℕ) (pcm qcm : List ℕ) : Type 0 where
  pub length : length qcm ≡ length pcm
  pub bytes : Bytes qcm
  pub before : (i : ℕ) → i < 4 * (j * n) → get_or qcm i 0 ≡ get_or pcm i 0
  pub past : (i : ℕ) → 4 * (suc j * n) ≤ i → get_or qcm i 0 ≡ get_or pcm i 0
  pub passes : T (all_pass qcm (4 * (j * n)) n)

abbrev pub with_pcm : List ℕ → Args → Args
with_pcm qcm a = record { pcm = qcm; meta = a.meta; out = a.out; codes = a.codes; rate = a.rate; samples = a.samples; objects = a.objects; stride = a.stride }

module _ (L : Leaves) where
  -- object d of a timed state
  abbrev pub object_in : L.Meta → ℕ → Source
  object_in m d = get_or (L.objects m) d nobody

  -- object j at sample t
  abbrev pub object_heard : State L → Args → ℕ → ℕ → Source
  object_heard r a t j = get_or (moment_at L r a t).objects j nobody

  -- an update was applied before the push, or one of its own at an offset up to t is
  abbrev pub up_to : ℕ → List L.Update → Bool
  up_to t [] = false
  up_to t (u ∷ us) = leb (L.offset u) t || up_to t us

  abbrev pub begun : State L → Args → ℕ → Bool
  begun r a t = started L r.meta || up_to t (updates_in L r a)

  -- ---- sample t
  pub record AtSample (r : State L) (a : Args) (t : ℕ) : Type 0 where
    -- it finds the updates at t applied, those that waited and then the push's own (R-12), in the order sent, and a slot begun where one begins
    pub finds : met L r a t ≡ slotted L (applied_all L t (at_offset L.offset t (updates_in L r a)) (before L r a t))
    -- it is heard in the renderer's hall
    pub hall : (moment_at L r a t).hall ≡ r.setup
    -- it is heard with the beds and objects of the timed state, "silent samples pan no object", and with its own samples of the PCM
    pub beds : (moment_at L r a t).beds ≡ cond (begun r a t) (L.beds (met L r a t).meta) []
    pub objects : (moment_at L r a t).objects ≡ cond (begun r a t) (L.objects (met L r a t).meta) []
    pub codes : (moment_at L r a t).codes ≡ a.codes
    pub inputs : (i : ℕ) → (moment_at L r a t).inputs i ≡ sample_at a.pcm a.samples i t
    pub own : (moment_at L r a t).own ≡ samples_at a.pcm a.samples a.objects (length a.codes) t
    -- no bed and no object is left out: each bed has its input, and the objects are as many as the push brings
    pub matched : All (Matched a.codes) (moment_at L r a t).beds
    pub count : length (moment_at L r a t).objects ≡ cond (begun r a t) a.objects 0
    -- the sum of channel 3 enters the low-pass
    pub enters : (before L r a (suc t)).filter ≡ next (before L r a t).filter (fed (moment_at L r a t))
    -- what each channel sounds like is laid behind the samples that wait; the places of a channel that the hall lacks stay
    pub sounds : (c : ℕ) → c < 12 → T (present r.setup.layout c)
        → get_or ((before L r a (suc t)).pending.places c) ((r.pending.count + t) % 64) 0 ≡ to_bits binary32 (sound_at L r a c t)
    pub absent : (c : ℕ) → present r.setup.layout c ≡ false → (before L r a (suc t)).pending.places c ≡ r.pending.places c
    -- "Samples before the first update are silent."
    pub quiet : begun r a t ≡ false → (c : ℕ) → sound_at L r a c t ≡ 0·0

  -- R-11: "an object number .. below the last applied update's count, 0 without one"
  abbrev pub Numbered : State L → ℕ → Type 0
  Numbered r d = (started L r.meta ≡ true) × (d < (L.shape r.meta).objects)

  -- object d along a push, which brings a.objects of them
  pub record Holding (r : State L) (a : Args) (d : ℕ) : Type 0 where
    -- where there were as many before: what is asked for lasts, and an object with a hold asked for is heard where it stood and stays there; whether the hold was in effect before
    -- plays no part, since before the next slot no object moves
    pub numbered : (L.shape r.meta).objects ≡ a.objects → Numbered r d → Numbered (pushed L (frame_of L r a) r).next d
    pub lasts : (L.shape r.meta).objects ≡ a.objects → L.wants d (pushed L (frame_of L r a) r).next.meta ≡ L.wants d r.meta
    pub heard : (L.shape r.meta).objects ≡ a.objects → L.wants d r.meta ≡ true → (t : ℕ) → t < a.samples → begun r a t ≡ true
        → (object_heard r a t d).place ≡ (object_in r.meta d).place
    pub stays : (L.shape r.meta).objects ≡ a.objects → L.wants d r.meta ≡ true
        → (object_in (pushed L (frame_of L r a) r).next.meta d).place ≡ (object_in r.meta d).place
    -- "A change in the number of objects .. end[s] all holds": the first update of another number does
    pub ended : ((L.shape r.meta).objects ≡ a.objects → ⊥) → (t : ℕ) → t < a.samples → T (up_to t (updates_in L r a))
        → L.wants d (pushed L (frame_of L r a) r).next.meta ≡ false

  -- ---- a call that is refused: "State and lent memory stay as before the call"
  pub record Refuses (r : State L) (n x y : ℕ) (s : Result L) : Type 0 where
    pub answer : s.answer ≡ refused n x y
    pub next : s.next ≡ r

  -- R-12: what a push is refused for where updates wait
  pub record AheadRefused (r : State L) (a : Args) (x : Result L) : Type 0 where
    -- "25 when more would wait, after 8": whatever 9 to 14 say
    pub earlier : (n y z : ℕ) → early L r a ≡ stop n y z → Refuses r n y z x
    pub many : early L r a ≡ clear → L.fits r.clock.position a.samples r.waits a.meta ≡ false → Refuses r 25 0 0 x
    -- "For 10, an update that only waits doesn't count"
    pub silent : early L r a ≡ clear → L.fits r.clock.position a.samples r.waits a.meta ≡ true → (r.rate ≡ 0) ⊎ (r.rate ≡ a.rate) → started L r.meta ≡ false
        → All (λ (u : L.Update). L.offset u ≡ never) (updates_in L r a) → Refuses r 10 0 0 x

  -- ---- a push that is not
  pub record PushHolds (r : State L) (a : Args) : Type 0 where
    -- it answers with what it gives out
    pub answer : (step L r (push a)).answer ≡ answered L (pushed L (frame_of L r a) r)
    pub next : (step L r (push a)).next ≡ with_waits L (ahead_after L r a) (pushed L (frame_of L r a) r).next
    -- R-12: what waits is settled at its end, once; no sample of it touches what waits
    pub ahead : (pushed L (frame_of L r a) r).next.waits ≡ r.waits
    -- in the same hall
    pub setup : (pushed L (frame_of L r a) r).next.setup ≡ r.setup
    -- whole blocks are ready on each channel that is there and the remainder waits; the stream has moved by the push's samples, at the push's rate
    pub ready : (c : ℕ) → c < 12 → length ((pushed L (frame_of L r a) r).given c) ≡ count_on r.setup (64 * whole L r a) c
    pub waits : (pushed L (frame_of L r a) r).next.pending.count ≡ (r.pending.count + a.samples) % 64
    pub position : (pushed L (frame_of L r a) r).next.clock.position ≡ r.clock.position + a.samples
    pub rate : (pushed L (frame_of L r a) r).next.rate ≡ a.rate
    -- every block is limited by the gain that it meets, and what waits is what no whole block took
    pub gives : (c : ℕ) → c < 12 → (pushed L (frame_of L r a) r).given c ≡ limited_blocks a.rate r.limiter.gain (unlimited L r a) (whole L r a) c
    pub gain : (pushed L (frame_of L r a) r).next.limiter.gain ≡ gain_before a.rate r.limiter.gain (unlimited L r a) (whole L r a)
    -- R-2: a block's meters are its peak and the gain that it was scaled by; no sample is larger than those of its own block say
    pub meters : (pushed L (frame_of L r a) r).meters ≡ blocks_metered a.rate r.limiter.gain (unlimited L r a) (whole L r a)
    pub within : AllMetered (pushed L (frame_of L r a) r).meters (pushed L (frame_of L r a) r).given
    pub rest : (c : ℕ) → c < 12 → waiting L (pushed L (frame_of L r a) r).next c ≡ drop (64 * whole L r a) (unlimited L r a c)
    -- a moment for each sample
    pub moments : length (pushed L (frame_of L r a) r).moments ≡ a.samples
    pub samples : (t : ℕ) → t < a.samples → AtSample r a t
    -- R-11: "the last applied update's count" is the push's, and what is held stays where it is
    pub numbers : 0 < a.samples → started L (pushed L (frame_of L r a) r).next.meta ≡ true → (L.shape (pushed L (frame_of L r a) r).next.meta).objects ≡ a.objects
    pub holds : (d : ℕ) → d < a.objects → Holding r a d
    -- R-3, the bass feed: "it gets nothing from an object whose gain or send is zero, whatever its size": with its row of the PCM replaced by any that refusal 8 lets pass, the
    -- push is accepted and the same number is fed
    pub bass : (t j : ℕ) → t < a.samples → j < a.objects → T (unsent (object_heard r a t j)) → (qcm : List ℕ) → Replaced a.samples (length a.codes + j) a.pcm qcm
        → (found L r (with_pcm qcm a) ≡ clear) × (fed (moment_at L r (with_pcm qcm a) t) ≡ fed (moment_at L r a t))
    -- "sample × (gain × send)" is all that an object adds there; where none is sent, the beds alone are fed, as in the Rust
    pub sends : (t j : ℕ) → j < length (moment_at L r a t).objects → object_adds r.setup (object_heard r a t j) 3 ≡ send_of (object_heard r a t j) ∷ []
    pub alone : (t : ℕ) → All (λ (s : Source). T (unsent s)) (moment_at L r a t).objects → fed (moment_at L r a t) ≡ fed_by_beds (moment_at L r a t)
    -- R-5: each bed is put out to its speaker, or panned where that is absent; every term of a bed or an object is on a channel that the hall has, 3 or a speaker that is there
    pub put_out : (t : ℕ) → All (BedHeard r.setup) (moment_at L r a t).beds
    pub beds_absent : (c : ℕ) → present r.setup.layout c ≡ false → (b : Bed) → adds_of r.setup b c ≡ []
    pub objects_absent : (c : ℕ) → present r.setup.layout c ≡ false → (t j : ℕ) → j < length (moment_at L r a t).objects → object_adds r.setup (object_heard r a t j) c ≡ []
    -- objects that are there and of size zero: the squares; "at gain 0 the coefficients are zero", at any size
    pub squares : (t j : ℕ) → j < length (moment_at L r a t).objects → T (eq (object_heard r a t j).size 0·0) → Squares r.setup (object_heard r a t j)
    pub still : (t j : ℕ) → j < length (moment_at L r a t).objects → T (eq (object_heard r a t j).gain 0·0) → object_terms r.setup (object_heard r a t j) ≡ []

  -- ---- a flush with room for its samples, a reset, and a renderer made

  -- s is r but for the limiter's gain and what is pending
  pub record Drained (r s : State L) : Type 0 where
    pub pending : s.pending.count ≡ 0
    pub setup : s.setup ≡ r.setup
    pub rate : s.rate ≡ r.rate
    pub clock : s.clock ≡ r.clock
    pub filter : s.filter ≡ r.filter
    pub meta : s.meta ≡ r.meta
    pub places : s.pending.places ≡ r.pending.places
    pub waits : s.waits ≡ r.waits

  -- "with nothing pending says none"; "Flush treats the remainder as one shorter block": as many samples as were pending on each channel that is there, and nothing is pending
  -- after
  pub record FlushHolds (r : State L) (x : Result L) : Type 0 where
    pub none : r.pending.count ≡ 0 → (x.answer ≡ nothing) × (x.next ≡ r)
    pub gives : 0 < r.pending.count → x.answer ≡ rendered (limited r.limiter.gain (waiting L r)) (call_meters (metered r.limiter.gain (waiting L r)))
    pub within : 0 < r.pending.count → AllMetered (metered r.limiter.gain (waiting L r)) (limited r.limiter.gain (waiting L r))
    pub ready : 0 < r.pending.count → (c : ℕ) → c < 12 → length (given x.answer c) ≡ count_on r.setup r.pending.count c
    pub gain : 0 < r.pending.count → x.next.limiter.gain ≡ gain_after r.pending.count r.rate r.limiter.gain (waiting L r)
    pub untouched : 0 < r.pending.count → Drained r x.next

  -- R-11: reset ends all holds; R-12: "reset empties" what waits
  pub record ResetHolds (r : State L) (x : Result L) : Type 0 where
    pub answer : x.answer ≡ cleared
    pub next : x.next ≡ fresh L r.setup
    pub freed : (d : ℕ) → L.wants d x.next.meta ≡ false
    pub empty : x.next.waits ≡ L.no_waits

  -- R-5: a new renderer in that hall, whatever renderer it was
  pub record MakeHolds (h : Setup) (x : Result L) : Type 0 where
    pub answer : x.answer ≡ cleared
    pub next : x.next ≡ fresh L h
    pub freed : (d : ℕ) → L.wants d x.next.meta ≡ false
    pub empty : x.next.waits ≡ L.no_waits

  -- s is r but for what is asked for of object d: w
  pub record Asks (w : Bool) (d : ℕ) (r s : State L) : Type 0 where
    pub setup : s.setup ≡ r.setup
    pub rate : s.rate ≡ r.rate
    pub clock : s.clock ≡ r.clock
    pub limiter : s.limiter ≡ r.limiter
    pub filter : s.filter ≡ r.filter
    pub pending : s.pending ≡ r.pending
    pub waits : s.waits ≡ r.waits
    pub meta : s.meta ≡ L.want w d r.meta
    pub asked : L.wants d s.meta ≡ w
    pub others : (k : ℕ) → (k ≡ d → ⊥) → L.wants k s.meta ≡ L.wants k r.meta
    -- "takes effect at the next slot": nothing that is heard has changed
    pub shape : L.shape s.meta ≡ L.shape r.meta
    pub beds : L.beds s.meta ≡ L.beds r.meta
    pub objects : L.objects s.meta ≡ L.objects r.meta

  -- a hold (w) or a release (not w) of object d
  pub record MarkHolds (w : Bool) (d : ℕ) (r : State L) (x : Result L) : Type 0 where
    pub unnumbered : (Numbered r d → ⊥) → Refuses r 24 0 0 x
    -- "A second hold, or a release without one, changes nothing."
    pub known : Numbered r d → L.wants d r.meta ≡ w → (x.answer ≡ marked false) × (x.next ≡ r)
    pub noted : Numbered r d → (L.wants d r.meta ≡ w → ⊥) → (x.answer ≡ marked true) × Asks w d r x.next
    -- "Of a hold and a release before the same slot, the later undoes the earlier."
    pub undone : Numbered r d → (L.wants d r.meta ≡ w → ⊥) → (step L x.next (mark (not w) d)).next ≡ r
    pub silent : x.moments ≡ []

  -- R-13, a search: it changes nothing, and answers what the hall has
  pub record FindHolds (mask : ℕ) (r : State L) (x : Result L) : Type 0 where
    pub answer : x.answer ≡ place (search r.setup mask)
    pub next : x.next ≡ r
    pub silent : x.moments ≡ []

  abbrev pub CallHolds : State L → Call → Type 0
  CallHolds r (push a) = ((n x y : ℕ) → found L r a ≡ stop n x y → Refuses r n x y (step L r (push a))) × (found L r a ≡ clear → PushHolds r a) × AheadRefused r a (step L r (push a))
  CallHolds r (flush out stride) =
      (room stride (length out) ≡ false → Refuses r 1 0 0 (step L r (flush out stride))) × (room stride (length out) ≡ true → FlushHolds r (step L r (flush out stride)))
  CallHolds r reset = ResetHolds r (step L r reset)
  CallHolds r (make n) = (3 < n → Refuses r 15 0 0 (step L r (make n))) × (n ≤ 3 → MakeHolds (hall_with n) (step L r (make n)))
  CallHolds r (make_with n t) =
      ((k x y : ℕ) → table_found n t ≡ stop k x y → Refuses r k x y (step L r (make_with n t)))
      × (table_found n t ≡ clear → MakeHolds (hall_of n t) (step L r (make_with n t)))
  CallHolds r (mark w d) = MarkHolds w d r (step L r (mark w d))
  CallHolds r (find m) = FindHolds m r (step L r (find m))

  -- of each call of the list, each handed what the one before left
  abbrev pub AllHold : State L → List Call → Type 0
  AllHold r [] = Unit {0}
  AllHold r (c ∷ cs) = CallHolds r c × AllHold (step L r c).next cs
