-- What `proofs/Quick` works out is what the rules say, for every row. Assumes nothing.
use Prim.Native.Nat.{ℕ, zero, suc, ◌+◌, ◌*◌, ◌^◌, ◌≤◌, ◌<◌, zero-le}
use native.Mathlib.Nat.{not-suc-le-zero, zero-add}
use native.Mathlib.Omega.{arith}
use mathlib.Core.Path.{◌≡◌, refl, sym, ap, ap₂, subst, ◌∙◌, fun_ext}
use mathlib.Core.Bool.{Bool, true, false, cond, ◌&&◌, ◌||◌, true≢false}
use mathlib.Core.List.{List, [], ◌∷◌, ◌++◌}
use lib.Dec.{T, ltb, leb, eqb, ltb→lt, leb→le, lit<}
use lib.ListN.{get_or, length, get_or-map}
use lib.Ieee.{Float, binary32, to_bits}
use lib.Ieee.Fits.{and_l, and_r}
use borrow.Author.Tests.{ltb-true, ltb-false, lt-ltb}
use Rattle.words.specs.Words.{Words, number, word}
use Rattle.mixing.specs.Sums as sums
use Rattle.mixing.specs.Sums.{total}
use Rattle.std.specs.Prelude.{Option, Some, None}
use Rattle.beds.specs.Matching.{matching}
use Rattle.beds.proofs.Range.{Each, between}
use Rattle.panning.specs.Terms.{on_channel}
use Rattle.panning.specs.Setup.{place_in, present, terms_in}
use Rattle.vectors.specs.declared.Vec3.{Vec3}
use Rattle.timed.specs.Objects.{nowhere}
use Rattle.timed.specs.State.{Timed}
use Rattle.rules.specs.Parts.{0·0, Channels, Places}
use Rattle.rules.specs.Leaves.{Source, Bed, started}
use Rattle.rules.specs.Mix.{object_terms, adds_of, added_terms, object_adds, sample_at, samples_at, scaled_by, fed_by, beds_on, objects_on, heard}
use Rattle.rules.specs.Samples.{Setup, Frame, State, After, opened, updated, slotted, moment, sampled, framed, pushed}
use Rattle.rules.specs.Refusals.{Args, Found, clear, stop}
use Rattle.rules.specs.Calls as rules
use Rattle.rules.specs.Calls.{Call, push, flush, reset, make, make_with, mark, find, Answer, refused, rendered, nothing, cleared, marked, place, Result, frame_of, found, step}
use Rattle.rules.specs.BlockCalls.{written, out_of, stride_of, left, told}
use Rattle.rules.proofs.Theorems.{written_reads, length_map}
use Rattle.rules.proofs.Written.{written_beside}
use Rattle.theorem.specs.Instance.{hall, block, Sent}
use Rattle.rows.specs.Rows.{ready, words_on, samples_on, said, all_said, Row, starting_at, calls, seen}
use Rattle.rows.proofs.Quick.{firsts, memo, with_places, settled, both, Run, samples, plain, Feed, feeds, fed_from, bed_feeds, all_terms, object_feeds}
use Rattle.rows.proofs.Quick.{mixer_at, mixer}
use Rattle.rows.proofs.Quick.{scaled, mixed, passing, sent_for, begins, mixes, quick, small, level, line, lines, words_of, reading, read}
use Rattle.rows.proofs.Quick.{asked, stepped, said_of, said_by, plainly, quickly}

-- ---- a function's first values

firsts_at : {A : Type 0} (n i j : ℕ) (d : A) (f : ℕ → A) → j < n → get_or (firsts n i f) j d ≡ f (i + j)
unfolding firsts
firsts_at zero i j d f h = absurd (not-suc-le-zero h)
firsts_at (suc n) i zero d f h = ap f (omega arith)
firsts_at (suc n) i (suc j) d f h = firsts_at n (suc i) j d f (omega arith) ∙ ap f (omega arith)

memo_is : {A : Type 0} (n : ℕ) (d : A) (f : ℕ → A) → memo n d f ≡ f
unfolding memo
memo_is n d f = fun_ext (λ i. near i (ltb i n) refl)
  where
    near : (i : ℕ) (b : Bool) → ltb i n ≡ b → cond b (get_or (firsts n 0 f) i d) (f i) ≡ f i
    near i true h = firsts_at n 0 i d f (ltb-true i n h) ∙ ap f (zero-add i)
    near i false h = refl

-- ---- a frame

settled_is : (r : State hall) → settled r ≡ r
unfolding settled
settled_is r = ap (λ (p : Places). with_places p r) (memo_is 12 [] r.pending.places)

samples_are : (f : Frame Sent) (n t : ℕ) (r : State hall) → samples f n t r ≡ framed hall f n t r
unfolding samples
samples_are f zero t r = refl
samples_are f (suc n) t r =
    let a = sampled hall f t r in
    ap (both a) (samples_are f n (suc t) (settled a.next) ∙ ap (framed hall f n (suc t)) (settled_is a.next))

plain_is : (f : Frame Sent) (r : State hall) → plain f r ≡ pushed hall f r
unfolding plain pushed
plain_is f r = samples_are f f.samples 0 (opened hall f.rate r)

-- ---- sums

module _ (xs : ℕ → Float) where
  scaled_then : (ks ls : List Feed) → scaled xs (ks ++ ls) ≡ scaled xs ks ++ scaled xs ls
  unfolding scaled
  scaled_then [] ls = refl
  scaled_then (k ∷ ks) ls = ap (λ (ts : List sums.Addend). record { coef = k.coef; sample = xs k.row } ∷ ts) (scaled_then ks ls)

  scaled_feeds : (i : ℕ) (ks : List Float) → scaled xs (feeds i ks) ≡ scaled_by ks (xs i)
  unfolding scaled feeds
  scaled_feeds i [] = refl
  scaled_feeds i (k ∷ ks) = ap (λ (ts : List sums.Addend). record { coef = k; sample = xs i } ∷ ts) (scaled_feeds i ks)

  scaled_fed : (ks : List Float) (i : Option ℕ) → scaled xs (fed_from ks i) ≡ fed_by ks i xs
  unfolding scaled fed_from
  scaled_fed ks (Some i) = scaled_feeds i ks
  scaled_fed ks None = refl

  scaled_beds : (h : Setup) (c : ℕ) (bs : List Bed) (codes : List ℕ) → scaled xs (bed_feeds (present h.layout) (terms_in h) c bs codes) ≡ beds_on h c bs codes xs
  unfolding scaled bed_feeds
  scaled_beds h c [] codes = refl
  scaled_beds h c (b ∷ bs) codes =
      let i = matching b.code codes in
      scaled_then (fed_from (adds_of h b c) i) (bed_feeds (present h.layout) (terms_in h) c bs codes) ∙ ap₂ ◌++◌ (scaled_fed (adds_of h b c) i) (scaled_beds h c bs codes)

scaled_objects : (pcm : List ℕ) (n t : ℕ) (h : Setup) (c : ℕ) (ss : List Source) (k i : ℕ)
    → scaled (λ i. sample_at pcm n i t) (object_feeds c (all_terms (terms_in h) ss) k i) ≡ objects_on h c ss (samples_at pcm n k i t)
unfolding scaled all_terms object_feeds object_terms
scaled_objects pcm n t h c [] k i = refl
scaled_objects pcm n t h c (s ∷ ss) zero i = refl
scaled_objects pcm n t h c (s ∷ ss) (suc k) i =
    let xs : ℕ → Float = λ i. sample_at pcm n i t in
    scaled_then xs (feeds i (on_channel c (added_terms h s))) (object_feeds c (all_terms (terms_in h) ss) k (suc i))
    ∙ ap₂ ◌++◌ (scaled_feeds xs i (object_adds h s c)) (scaled_objects pcm n t h c ss k (suc i))

abbrev summed : (ℕ → List Feed) → (ℕ → Float) → ℕ → Float
summed k xs c = total 0·0 (scaled xs (k c))

mixed_is : (f : Frame Sent) (h : Setup) (m : Timed) (t : ℕ) → mixed f (mixer f h m) t ≡ heard (moment hall f t h m)
unfolding mixed mixer mixer_at heard
mixed_is f h m t =
    ap (λ (sp : ℕ → Vec3). mixed f (mixer_at h.layout sp f m) t) (memo_is 12 nowhere (place_in h))
    ∙ memo_is 12 0·0 (summed here (memo rows 0·0 xs))
    ∙ ap (summed here) (memo_is rows 0·0 xs)
    ∙ ap (λ (k : ℕ → List Feed). summed k xs) (memo_is 12 [] k)
    ∙ fun_ext (λ c. ap (total 0·0)
    (scaled_then xs (bed_feeds (present h.layout) (terms_in h) c bs f.codes) (object_feeds c (all_terms (terms_in h) ss) f.objects (length f.codes))
    ∙ ap₂ ◌++◌ (scaled_beds xs h c bs f.codes) (scaled_objects f.pcm f.samples t h c ss f.objects (length f.codes))))
  where
    here : ℕ → List Feed
    here = mixer_at h.layout (place_in h) f m

    rows : ℕ
    rows = length f.codes + f.objects

    xs : ℕ → Float
    xs i = sample_at f.pcm f.samples i t

    bs : List Bed
    bs = cond (started hall m) (hall.beds m) []

    ss : List Source
    ss = cond (started hall m) (hall.objects m) []

    k : ℕ → List Feed
    k c = bed_feeds (present h.layout) (terms_in h) c bs f.codes ++ object_feeds c (all_terms (terms_in h) ss) f.objects (length f.codes)

-- ---- a frame by its mixers

neither : (a b : Bool) → (a || b) ≡ false → (a ≡ false) × (b ≡ false)
neither true b h = absurd (true≢false h)
neither false b h = (refl, h)

none_sent : (t : ℕ) (us : List Sent) (r : State hall) → sent_for t us ≡ false → updated hall t us r ≡ r
unfolding sent_for
none_sent t [] r h = refl
none_sent t (u ∷ us) r h = let e = neither (eqb u.offset t) (sent_for t us) h in rw e.0 (none_sent t us r e.1)

-- where no update is sent for t and no slot starts, the timed state stays, and so does the mixer
stays : (f : Frame Sent) (t : ℕ) (r : State hall) → begins f t r ≡ false
    → (let s = slotted hall (updated hall t f.updates r) in mixer f s.setup s.meta) ≡ mixer f r.setup r.meta
unfolding begins
stays f t r h =
    let e = neither (sent_for t f.updates) (started hall r.meta && eqb r.clock.phase 0) h in
    ap (λ (s : State hall). mixer f (slotted hall s).setup (slotted hall s).meta) (none_sent t f.updates r e.0)
    ∙ ap (λ (b : Bool). mixer f r.setup (cond b (hall.slot r.clock.start r.meta) r.meta)) e.1

module _ (f : Frame Sent) (t : ℕ) (r : State hall) (k : ℕ → List Feed) (e : k ≡ mixer f r.setup r.meta) where
  abbrev begun : ℕ → List Feed
  begun = let s = slotted hall (updated hall t f.updates r) in mixer f s.setup s.meta

  -- the mixer of the state once the updates at t are applied and the slot has started
  mixer_is : (b : Bool) → begins f t r ≡ b → (elim b as (λ _. ℕ → List Feed) [ true ↦ begun | false ↦ k ]) ≡ begun
  mixer_is true h = refl
  mixer_is false h = e ∙ sym (stays f t r h)

mixes_are : (f : Frame Sent) (n t : ℕ) (r : State hall) (k : ℕ → List Feed) → k ≡ mixer f r.setup r.meta → mixes f n t r k ≡ framed hall f n t r
unfolding mixes passing settled
mixes_are f zero t r k e = refl
mixes_are f (suc n) t r k e =
    let s = slotted hall (updated hall t f.updates r) in
    let l : ℕ → List Feed = elim (begins f t r) [ true ↦ mixer f s.setup s.meta | false ↦ k ] in
    let m = moment hall f t s.setup s.meta in
    let a = passing (mixed f l t) (m ∷ []) s in
    let is : l ≡ mixer f s.setup s.meta = mixer_is f t r k e (begins f t r) refl in
    ap (both a) (mixes_are f n (suc t) (settled a.next) l is ∙ ap (framed hall f n (suc t)) (settled_is a.next))
    ∙ ap (λ (h : ℕ → Float). both (passing h (m ∷ []) s) (framed hall f n (suc t) (passing h (m ∷ []) s).next))
    (ap (λ (l : ℕ → List Feed). mixed f l t) is ∙ mixed_is f s.setup s.meta t)

quick_is : (f : Frame Sent) (r : State hall) → quick f r ≡ pushed hall f r
unfolding quick pushed
quick_is f r = mixes_are f f.samples 0 (opened hall f.rate r) (mixer f r.setup r.meta) refl

-- ---- what is read from an output

small_words_is : (ws : List ℕ) → T (small ws) → Words ws
unfolding small
small_words_is [] h = tt
small_words_is (w ∷ ws) h = (ltb→lt w (2 ^ 32) (and_l (ltb w (2 ^ 32)) (small ws) h), small_words_is ws (and_r (ltb w (2 ^ 32)) (small ws) h))

abbrev Level : ℕ → Places → ℕ → Type 0
Level n ws c = T (leb (length (ws c)) n && small (ws c))

level_each : (k c n : ℕ) (ws : Places) → T (level k c n ws) → Each (Level n ws) c k
unfolding level
level_each zero c n ws h = tt
level_each (suc k) c n ws h =
    let here = leb (length (ws c)) n && small (ws c) in
    (and_l here (level k (suc c) n ws) h, level_each k (suc c) n ws (and_r here (level k (suc c) n ws) h))

-- bytes that are the same make the same number
number_of_bytes : (s t : List ℕ) (at n : ℕ) → ((i : ℕ) → i < n → get_or s (at + i) 0 ≡ get_or t (at + i) 0) → number s at n ≡ number t at n
unfolding number
number_of_bytes s t at zero h = refl
number_of_bytes s t at (suc n) h =
    ap₂ (λ (x y : ℕ). x + y * 256 ^ n) (number_of_bytes s t at n (λ i l. h i (omega arith))) (h n (omega arith))

module _ (g : Channels) (stride : ℕ) (out : List ℕ) (room : 48 * stride ≤ length out) (even : Each (Level stride (words_of g)) 0 12) where
  here : (c : ℕ) → c < 12 → Level stride (words_of g) c
  here c l = between (Level stride (words_of g)) 0 12 even c zero-le l

  bits : (c : ℕ) → c < 12 → Words (words_of g c)
  bits c l = small_words_is (words_of g c) (and_r (leb (length (words_of g c)) stride) (small (words_of g c)) (here c l))

  words_long : (c : ℕ) → length (words_of g c) ≡ length (g c)
  words_long c = length_map (to_bits binary32) (g c)

  most : (c : ℕ) → c < 12 → length (g c) ≤ stride
  most c l =
      let ws = words_of g c in
      subst (λ (n : ℕ). n ≤ stride) (words_long c) (leb→le (length ws) stride (and_l (leb (length ws) stride) (small ws) (here c l)))

  -- how many samples channel c has, of the twelve
  abbrev n : ℕ → ℕ
  n c = cond (ltb c 12) (length (g c)) 0

  few : (c : ℕ) → n c ≤ stride
  few c = by (ltb c 12) refl
    where
      by : (b : Bool) → ltb c 12 ≡ b → cond b (length (g c)) 0 ≤ stride
      by true e = most c (ltb-true c 12 e)
      by false e = zero-le

  long : (c : ℕ) → c < 12 → length (g c) ≡ n c
  long c l = sym (ap (λ (b : Bool). cond b (length (g c)) 0) (lt-ltb c 12 l))

  sample_is : (c i : ℕ) → c < 12 → i < stride
      → cond (ltb i (length (words_of g c))) (get_or (words_of g c) i (to_bits binary32 0·0)) (word out (4 * (c * stride + i))) ≡ word (written g stride out) (4 * (c * stride + i))
  sample_is c i l h = by (ltb i (length (words_of g c))) refl
    where
      by : (b : Bool) → ltb i (length (words_of g c)) ≡ b
          → cond b (get_or (words_of g c) i (to_bits binary32 0·0)) (word out (4 * (c * stride + i))) ≡ word (written g stride out) (4 * (c * stride + i))
      by true e =
          let short : i < n c = subst (λ (k : ℕ). i < k) (words_long c ∙ long c l) (ltb-true i (length (words_of g c)) e) in
          get_or-map (to_bits binary32) (g c) i 0·0 ∙ sym (written_reads g stride n few bits long out room c i l short)
      by false e =
          let past : n c ≤ i = subst (λ (k : ℕ). k ≤ i) (words_long c ∙ long c l) (ltb-false i (length (words_of g c)) e) in
          number_of_bytes out (written g stride out) (4 * (c * stride + i)) 4
          (λ k j. ap (λ (at : ℕ). get_or out at 0) (let e : 4 * (c * stride + i) + k ≡ 4 * (c * stride) + (4 * i + k) = omega arith in e)
          ∙ sym (written_beside g stride n few long out c (4 * i + k) l (omega arith) (omega arith))
          ∙ ap (λ (at : ℕ). get_or (written g stride out) at 0) (let e : 4 * (c * stride) + (4 * i + k) ≡ 4 * (c * stride + i) + k = omega arith in e))

  line_is : (k c i : ℕ) → c + k ≤ 12 → i < stride → line k c stride out i (words_of g) ≡ words_on k c stride i (written g stride out)
  unfolding line
  line_is zero c i l h = refl
  line_is (suc k) c i l h = ap₂ ◌∷◌ (sample_is c i (omega arith) h) (line_is k (suc c) i (omega arith) h)

  lines_are : (m i : ℕ) → i + m ≤ stride → lines m stride out i (words_of g) ≡ samples_on m i stride (written g stride out)
  unfolding lines
  lines_are zero i l = refl
  lines_are (suc m) i l = ap₂ ◌∷◌ (line_is 12 0 i (omega arith) (omega arith)) (lines_are m (suc i) (omega arith))

reading_is : (g : Channels) (stride : ℕ) (out : List ℕ) → reading g (words_of g) stride out ≡ samples_on (length (g 0)) 0 stride (written g stride out)
unfolding reading
reading_is g stride out = by (leb (48 * stride) (length out) && level 12 0 stride (words_of g)) (λ h. h)
  where
    n : ℕ
    n = length (g 0)

    by : (b : Bool) → (T b → T (leb (48 * stride) (length out) && level 12 0 stride (words_of g)))
        → (elim b [ true ↦ lines n stride out 0 (words_of g) | false ↦ samples_on n 0 stride (written g stride out) ]) ≡ samples_on n 0 stride (written g stride out)
    by true h =
        let room = leb→le (48 * stride) (length out) (and_l (leb (48 * stride) (length out)) _ (h tt)) in
        let even = level_each 12 0 stride (words_of g) (and_r (leb (48 * stride) (length out)) _ (h tt)) in
        let few = most g stride out room even 0 (lit< tt) in
        lines_are g stride out room even n 0 (omega arith)
    by false h = refl

read_is : (g : Channels) (stride : ℕ) (out : List ℕ) → read g stride out ≡ samples_on (length (g 0)) 0 stride (written g stride out)
unfolding read
read_is g stride out =
    ap (λ (ws : Places). reading (memo 12 [] g) ws stride out) (memo_is 12 [] (words_of (memo 12 [] g)))
    ∙ reading_is (memo 12 [] g) stride out
    ∙ ap (λ (h : Channels). samples_on (length (h 0)) 0 stride (written h stride out)) (memo_is 12 [] g)

-- ---- calls

said_is : (x : Answer) (s : State hall) (stride : ℕ) (out b : List ℕ)
    → said_of x stride out ≡ said (left hall block x s out stride b).answer stride (left hall block x s out stride b).out
unfolding said_of
said_is (refused n a b) s stride out b' = refl
said_is (rendered g m) s stride out b = ap ready (read_is g stride out)
said_is nothing s stride out b = refl
said_is cleared s stride out b = refl
said_is (marked c) s stride out b = refl
said_is (place p) s stride out b = refl

module _ (run : Run) (is : (f : Frame Sent) (r : State hall) → run f r ≡ pushed hall f r) where
  asked_is : (x : Found) (a : Args) (r : State hall) → asked run x a r ≡ rules.asked hall x a r
  unfolding asked
  asked_is (stop n x y) a r = refl
  asked_is clear a r =
      ap (λ (d : After hall). record { answer = rules.answered hall d; next = rules.with_waits hall (rules.ahead_after hall r a) d.next; moments = d.moments })
      (is (frame_of hall r a) r)

  stepped_is : (r : State hall) (c : Call) → stepped run r c ≡ step hall r c
  unfolding stepped
  stepped_is r (push a) = asked_is (found hall r a) a r
  stepped_is r (flush out stride) = refl
  stepped_is r reset = refl
  stepped_is r (make n) = refl
  stepped_is r (make_with n t) = refl
  stepped_is r (mark w d) = refl
  stepped_is r (find m) = refl

  all_said_is : (r : State hall) (cs : List Call) → said_by run r cs ≡ all_said cs (told hall block r cs)
  unfolding said_by
  all_said_is r [] = refl
  all_said_is r (c ∷ cs) =
      let x = step hall r c in
      ap (λ (x : Result hall). said_of x.answer (stride_of c) (out_of c) ∷ said_by run x.next cs) (stepped_is r c)
      ∙ ap₂ ◌∷◌ (said_is x.answer x.next (stride_of c) (out_of c) []) (all_said_is x.next cs)

pub plainly_is : (r : Row) → plainly r ≡ seen r
unfolding plainly
plainly_is r = all_said_is plain plain_is (starting_at r.start) (calls r)

pub quickly_is : (r : Row) → quickly r ≡ seen r
unfolding quickly
quickly_is r = all_said_is quick quick_is (starting_at r.start) (calls r)
