-- How rows are computed: as the rules do it, but what they would work out again and again is worked out once. `proofs/QuickIsRules`: that changes nothing. Assumes nothing.
use Prim.Native.Nat.{ℕ, zero, suc, ◌+◌, ◌*◌, ◌^◌}
use mathlib.Core.Bool.{Bool, true, false, cond, ◌&&◌, ◌||◌}
use mathlib.Core.List.{List, [], ◌∷◌, ◌++◌, map}
use lib.Dec.{ltb, leb, eqb}
use lib.ListN.{length, get_or}
use lib.Ieee.{Float, binary32, to_bits}
use Rattle.words.specs.Words.{word}
use Rattle.lowpass.specs.Lowpass.{output, next}
use Rattle.mixing.specs.Sums as sums
use Rattle.mixing.specs.Sums.{total}
use Rattle.std.specs.Prelude.{Option, Some, None}
use Rattle.beds.specs.BedTerms.{bed_adds}
use Rattle.beds.specs.Matching.{matching}
use Rattle.panning.specs.Terms.{Term, term, panned, terms, on_channel}
use Rattle.panning.specs.Setup.{place_in, present, speakers_in, divisor_in}
use Rattle.vectors.specs.declared.Vec3.{Vec3}
use Rattle.timed.specs.Objects.{nowhere}
use Rattle.timed.specs.State.{Timed}
use Rattle.rules.specs.Parts.{0·0, Channels, Places, none as silent, joined}
use Rattle.rules.specs.Leaves.{Source, Bed, started}
use Rattle.rules.specs.Mix.{send_of, sample_at, Moment}
use Rattle.rules.specs.Samples as rules
use Rattle.rules.specs.Samples.{Setup, Frame, State, After, sounding, opened, updated, slotted, sampled, moment, closing}
use Rattle.rules.specs.Refusals.{Args, Found, clear, stop}
use Rattle.rules.specs.Calls.{Call, push, flush, reset, make, make_with, mark, find, Answer, refused, rendered, nothing, cleared, marked, place, Result, frame_of, found, answered, with_waits, ahead_after, step}
use Rattle.rules.specs.BlockCalls.{written, out_of, stride_of}
use Rattle.theorem.specs.Instance.{hall, Sent}
use Rattle.rows.specs.Rows.{Said, refusal, ready, none, renewed, noted, said_place, samples_on, Row, starting_at, calls}
use Rattle.theorem.proofs.Opened.{everything}

-- ---- a function whose first n values are worked out once; d is any value

unfoldable pub firsts : {A : Type 0} → ℕ → ℕ → (ℕ → A) → List A
firsts zero i f = []
firsts (suc n) i f = f i ∷ firsts n (suc i) f

unfoldable pub memo : {A : Type 0} → ℕ → A → (ℕ → A) → ℕ → A
unfolding firsts
memo n d f = let xs = firsts n 0 f in λ i. let far = f i in cond (ltb i n) (get_or xs i d) far

-- ---- a frame, with the places worked out after each sample

abbrev pub with_places : Places → State hall → State hall
with_places p r =
    record {
      setup = r.setup;
      rate = r.rate;
      clock = r.clock;
      limiter = r.limiter;
      filter = r.filter;
      meta = r.meta;
      pending = record { count = r.pending.count; places = p };
      waits = r.waits;
    }

unfoldable pub settled : State hall → State hall
unfolding memo
settled r = with_places (memo 12 [] r.pending.places) r

-- one part and then the other
abbrev pub both : After hall → After hall → After hall
both a d = record { next = d.next; given = joined a.given d.given; meters = a.meters ++ d.meters; moments = a.moments ++ d.moments }

abbrev pub Run : Type 0
Run = Frame Sent → State hall → After hall

-- the rules' `framed` and `pushed`
unfoldable pub samples : Frame Sent → ℕ → ℕ → State hall → After hall
unfolding settled
samples f zero t r = record { next = r; given = silent; meters = []; moments = [] }
samples f (suc n) t r = let a = sampled hall f t r in both a (samples f n (suc t) (settled a.next))

unfoldable pub plain : Run
unfolding samples
plain f r = samples f f.samples 0 (opened hall f.rate r)

-- ---- a frame, with the coefficients worked out once a slot too

-- a coefficient, and the row of the PCM that it scales
pub record Feed : Type 0 where
  pub coef : Float
  pub row : ℕ

unfoldable pub feeds : ℕ → List Float → List Feed
feeds row [] = []
feeds row (k ∷ ks) = record { coef = k; row = row } ∷ feeds row ks

unfoldable pub fed_from : List Float → Option ℕ → List Feed
unfolding feeds
fed_from ks (Some i) = feeds i ks
fed_from ks None = []

-- a place, a gain and a size panned
abbrev pub Pan : Type 0
Pan = Vec3 → Float → Float → List Term

unfoldable pub bed_feeds : (ℕ → Bool) → Pan → ℕ → List Bed → List ℕ → List Feed
unfolding fed_from
bed_feeds here pan c [] codes = []
bed_feeds here pan c (b ∷ bs) codes =
    fed_from (bed_adds here (λ p g c. on_channel c (pan p g 0·0)) b.code b.gain c) (matching b.code codes) ++ bed_feeds here pan c bs codes

unfoldable pub all_terms : Pan → List Source → List (List Term)
all_terms pan [] = []
all_terms pan (s ∷ ss) = (pan s.place s.gain s.size ++ (term 3 (send_of s) ∷ [])) ∷ all_terms pan ss

-- objects by their terms; the frame has k rows for them, of which i is the first
unfoldable pub object_feeds : ℕ → List (List Term) → ℕ → ℕ → List Feed
unfolding feeds
object_feeds c [] k i = []
object_feeds c (ts ∷ tss) zero i = []
object_feeds c (ts ∷ tss) (suc k) i = feeds i (on_channel c ts) ++ object_feeds c tss k (suc i)

-- what the beds and objects of a timed state add to each channel, in a hall of layout n with its speakers at the places sp
unfoldable pub mixer_at : ℕ → (ℕ → Vec3) → Frame Sent → Timed → ℕ → List Feed
unfolding memo bed_feeds all_terms object_feeds
mixer_at n sp f m =
    let l = speakers_in n in
    let pan : Pan = λ p g z. terms l (panned sp l (divisor_in n) p g z) in
    let bs = cond (started hall m) (hall.beds m) [] in
    let tss = all_terms pan (cond (started hall m) (hall.objects m) []) in
    memo 12 [] (λ c. bed_feeds (present n) pan c bs f.codes ++ object_feeds c tss f.objects (length f.codes))

-- in the hall h, with the places worked out once
unfoldable pub mixer : Frame Sent → Setup → Timed → ℕ → List Feed
unfolding memo mixer_at
mixer f h = mixer_at h.layout (memo 12 nowhere (place_in h)) f

unfoldable pub scaled : (ℕ → Float) → List Feed → List sums.Addend
scaled xs [] = []
scaled xs (k ∷ ks) = record { coef = k.coef; sample = xs k.row } ∷ scaled xs ks

-- the rules' `heard`: the sum of each channel at sample t
unfoldable pub mixed : Frame Sent → (ℕ → List Feed) → ℕ → ℕ → Float
unfolding memo scaled
mixed f k t =
    let xs = memo (length f.codes + f.objects) 0·0 (λ i. sample_at f.pcm f.samples i t) in
    memo 12 0·0 (λ c. total 0·0 (scaled xs (k c)))

-- the rules' `passed`, from the sums
unfoldable pub passing : (ℕ → Float) → List Moment → State hall → After hall
passing h ms r =
    closing hall (rules.settled hall 1 (next r.filter (h 3)) (sounding r.setup (λ c. cond (eqb c 3) (output r.filter (h 3) ∷ []) (h c ∷ []))) r) ms

-- an update is sent for t, or a slot starts there
unfoldable pub sent_for : ℕ → List Sent → Bool
sent_for t [] = false
sent_for t (u ∷ us) = eqb u.offset t || sent_for t us

unfoldable pub begins : Frame Sent → ℕ → State hall → Bool
unfolding sent_for
begins f t r = sent_for t f.updates || (started hall r.meta && eqb r.clock.phase 0)

-- the rules' `framed` and `pushed`; k is the mixer of r
unfoldable pub mixes : Frame Sent → ℕ → ℕ → State hall → (ℕ → List Feed) → After hall
unfolding settled mixer mixed passing begins
mixes f zero t r k = record { next = r; given = silent; meters = []; moments = [] }
mixes f (suc n) t r k =
    let s = slotted hall (updated hall t f.updates r) in
    let l : ℕ → List Feed = elim (begins f t r) [ true ↦ mixer f s.setup s.meta | false ↦ k ] in
    let a = passing (mixed f l t) (moment hall f t s.setup s.meta ∷ []) s in
    both a (mixes f n (suc t) (settled a.next) l)

unfoldable pub quick : Run
unfolding mixes
quick f r = mixes f f.samples 0 (opened hall f.rate r) (mixer f r.setup r.meta)

-- ---- what is read from an output

unfoldable pub small : List ℕ → Bool
small [] = true
small (w ∷ ws) = ltb w (2 ^ 32) && small ws

-- the k channels from c on have at most n words each
unfoldable pub level : ℕ → ℕ → ℕ → Places → Bool
unfolding small
level zero c n ws = true
level (suc k) c n ws = (leb (length (ws c)) n && small (ws c)) && level k (suc c) n ws

-- sample i on the k channels from c on, which is what the output had where a channel is not there; the n samples from i on
unfoldable pub line : ℕ → ℕ → ℕ → List ℕ → ℕ → Places → List ℕ
line zero c stride out i ws = []
line (suc k) c stride out i ws =
    let kept = word out (4 * (c * stride + i)) in
    cond (ltb i (length (ws c))) (get_or (ws c) i (to_bits binary32 0·0)) kept ∷ line k (suc c) stride out i ws

unfoldable pub lines : ℕ → ℕ → List ℕ → ℕ → Places → List (List ℕ)
unfolding line
lines zero stride out i ws = []
lines (suc n) stride out i ws = line 12 0 stride out i ws ∷ lines n stride out (suc i) ws

abbrev pub words_of : Channels → Places
words_of g c = map (to_bits binary32) (g c)

-- what was written where there is room for it is read there
unfoldable pub reading : Channels → Places → ℕ → List ℕ → List (List ℕ)
unfolding level lines
reading g ws stride out =
    let n = length (g 0) in
    elim (leb (48 * stride) (length out) && level 12 0 stride ws) [
      | true ↦ lines n stride out 0 ws
      | false ↦ samples_on n 0 stride (written g stride out)
    ]

unfoldable pub read : Channels → ℕ → List ℕ → List (List ℕ)
unfolding memo reading
read g stride out = let h = memo 12 [] g in reading h (memo 12 [] (words_of h)) stride out

-- ---- calls, with a way to run a frame

unfoldable pub asked : Run → Found → Args → State hall → Result hall
asked run (stop n a b) args r = record { answer = refused n a b; next = r; moments = [] }
asked run clear args r =
    let d = run (frame_of hall r args) r in
    record { answer = answered hall d; next = with_waits hall (ahead_after hall r args) d.next; moments = d.moments }

unfoldable pub stepped : Run → State hall → Call → Result hall
unfolding asked
stepped run r (push a) = asked run (found hall r a) a r
stepped run r (flush out stride) = step hall r (flush out stride)
stepped run r reset = step hall r reset
stepped run r (make n) = step hall r (make n)
stepped run r (make_with n t) = step hall r (make_with n t)
stepped run r (mark w d) = step hall r (mark w d)
stepped run r (find m) = step hall r (find m)

unfoldable pub said_of : Answer → ℕ → List ℕ → Said
unfolding read
said_of (refused n a b) stride out = refusal n a b
said_of (rendered g m) stride out = ready (read g stride out)
said_of nothing stride out = none
said_of cleared stride out = renewed
said_of (marked c) stride out = noted c
said_of (place p) stride out = said_place p

unfoldable pub said_by : Run → State hall → List Call → List Said
unfolding stepped said_of
said_by run r [] = []
said_by run r (c ∷ cs) = let x = stepped run r c in said_of x.answer (stride_of c) (out_of c) ∷ said_by run x.next cs

unfoldable pub plainly : Row → List Said
unfolding everything plain said_by
plainly r = said_by plain (starting_at r.start) (calls r)

unfoldable pub quickly : Row → List Said
unfolding everything quick said_by
quickly r = said_by quick (starting_at r.start) (calls r)
