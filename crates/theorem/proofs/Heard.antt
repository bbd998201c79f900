-- Two lists of calls that are heard in each layout, so that neither silence nor refusing every call meets the statement, nor one that drops all beds or all objects: a push of one
-- sample of a front left bed, that with any table, or of one object, and a flush. A third whose meters show a peak above 1 and a gain below 1; a fourth in which an object alone is heard on channel 3; a
-- fifth in a hall of five speakers, in which a bed is heard whose speaker is absent. Assumes nothing.
use Prim.Native.Nat.{ℕ, zero, suc, ◌*◌, ◌≤◌}
use mathlib.Core.Path.{◌≡◌, refl, sym, subst}
use mathlib.Core.Bool.{Bool, true, ◌&&◌}
use mathlib.Core.List.{List, [], ◌∷◌, ◌++◌, map}
use native.Mathlib.Omega.{arith}
use lib.Dec.{T, ltb, ltb→lt, lit<, lit≤}
use lib.ListN.{length, get_or, replicate}
use lib.Ieee.{binary32, lt, mul, to_bits}
use lib.Ieee.Fits.{and_l, and_r}
use Rattle.words.specs.Words.{Bytes, word, float_at}
use Rattle.roots.specs.Root.{root}
use Rattle.updates.specs.Applied.{0·707}
use Rattle.rules.specs.Parts.{0·0, 1·0}
use Rattle.panning.specs.Setup.{Setup, hall_with}
use Rattle.rules.specs.Samples.{fresh}
use Rattle.rules.specs.Refusals.{Args, clear}
use Rattle.rules.specs.Calls.{Call, push, flush, make, nothing, meters_of, found}
use Rattle.rules.specs.BlockCalls.{made, Seen, seen_on, told}
use Rattle.rules.specs.Demand3.{AllLent}
use Rattle.theorem.specs.Instance.{hall, block}
use Rattle.theorem.specs.Halls.{MakesHall}
use Rattle.theorem.proofs.ZeroBytes.{zero_bytes}
use Rattle.theorem.proofs.Demand3.{layout_made, made_ranged, demand3_in}
use Rattle.theorem.proofs.Opened.{everything}

-- ---- the calls

-- a push of one sample, and a flush
abbrev pub frame : List ℕ → List ℕ → List ℕ → ℕ → Args
frame pcm meta codes objects = record { pcm = pcm; meta = meta; out = replicate 3072 0; codes = codes; rate = 48000; samples = 1; objects = objects; stride = 64 }

-- 0.5 and 4.0
abbrev pub half : List ℕ
half = 0 ∷ 0 ∷ 0 ∷ 63 ∷ []

abbrev pub four : List ℕ
four = 0 ∷ 0 ∷ 128 ∷ 64 ∷ []

-- with an output of the bytes k
abbrev pub calls_into : ℕ → Args → List Call
calls_into k f = push f ∷ flush (replicate 3072 k) 64 ∷ []

abbrev pub calls : Args → List Call
calls f = calls_into 0 f

-- one update at offset 0 without elements: of one object that is a bed channel with the code 0; of one dynamic object, which starts at gain 0.707 and the origin
abbrev pub one_bed : List ℕ
one_bed = 1 ∷ 0 ∷ 0 ∷ 0 ∷ 1 ∷ 1 ∷ 1 ∷ replicate 33 0

abbrev pub bed : Args
bed = frame half one_bed (0 ∷ []) 0

abbrev pub loud_bed : Args
loud_bed = frame four one_bed (0 ∷ []) 0

-- one that is a bed channel with the code 13, top rear left
abbrev pub rear_bed : List ℕ
rear_bed = 1 ∷ 0 ∷ 0 ∷ 0 ∷ 1 ∷ 1 ∷ 1 ∷ 0 ∷ 13 ∷ replicate 31 0

abbrev pub rear : Args
rear = frame half rear_bed (13 ∷ []) 0

abbrev pub object : Args
object = frame half (1 ∷ 0 ∷ 0 ∷ 0 ∷ 1 ∷ replicate 35 0) [] 1

-- one dynamic object, and an element of two blocks: that with the offset 0 makes it one to take, that with the offset -1 is applied at once. No ramp, the depth factor 1, the
-- send 1.
abbrev block_from : List ℕ → List ℕ
block_from offset = (3 ∷ replicate 7 0) ++ (offset ++ replicate 24 0)

abbrev sent_fully : List ℕ
sent_fully = (4 ∷ replicate 31 0) ++ (0 ∷ 0 ∷ 128 ∷ 63 ∷ 0 ∷ 0 ∷ 128 ∷ 63 ∷ [])

abbrev sent_update : List ℕ
sent_update =
    (1 ∷ 0 ∷ 0 ∷ 0 ∷ 1 ∷ 0 ∷ 0 ∷ 1 ∷ replicate 32 0) ++ ((2 ∷ 2 ∷ replicate 38 0)
    ++ (block_from (replicate 8 0) ++ (block_from (replicate 8 255) ++ (sent_fully ++ sent_fully))))

abbrev pub sent_object : Args
sent_object = frame half sent_update [] 1

abbrev pub unseen : Seen hall block
unseen = record { answer = nothing; out = [] }

-- ---- by the rules, in a hall: the push is accepted, and the flush writes more than 0 into the first place of channel 0, of channel 2, or of channel 3

abbrev pub Above0 : ℕ → Seen hall block → Type 0
Above0 at s = T (lt 0·0 (float_at s.out at))

-- or answers with a peak above 1 and a gain below 1
abbrev pub Reduced : Seen hall block → Type 0
Reduced s = T (lt 1·0 (meters_of s.answer).peak && lt (meters_of s.answer).gain 1·0)

-- or leaves these words in the first place of each channel
abbrev pub FirstWords : List ℕ → Seen hall block → Type 0
FirstWords ws s = map (λ c. word s.out (4 * (64 * c))) (0 ∷ 1 ∷ 2 ∷ 3 ∷ 4 ∷ 5 ∷ 6 ∷ 7 ∷ 8 ∷ 9 ∷ 10 ∷ 11 ∷ []) ≡ ws

-- where layout 3 has no channel the word is as it was; on channel 6 it is the sample times the root of the bed's gain, 0.5 × √0.707; else 0
abbrev pub on_left_surround : List ℕ
on_left_surround =
    let kept : ℕ = 0x0101_0101 in
    let left : ℕ = to_bits binary32 (mul binary32 (root 0·707) (float_at half 0)) in
    0 ∷ 0 ∷ 0 ∷ 0 ∷ kept ∷ kept ∷ left ∷ 0 ∷ kept ∷ kept ∷ kept ∷ kept ∷ []

abbrev pub Told : Setup → List Call → (Seen hall block → Type 0) → Type 0
Told h cs Q = Q (get_or (told hall block (fresh hall h) cs) 1 unseen)

pub accepted_bed : found hall (fresh hall (hall_with 0)) bed ≡ clear
unfolding everything
accepted_bed = refl

accepted_object : found hall (fresh hall (hall_with 0)) object ≡ clear
unfolding everything
accepted_object = refl

told_bed : (n : ℕ) (t : List ℕ) → n ≤ 3 → Told (record { layout = n; table = t }) (calls bed) (Above0 0)
unfolding everything
told_bed zero t h = tt
told_bed (suc zero) t h = tt
told_bed (suc (suc zero)) t h = tt
told_bed (suc (suc (suc zero))) t h = tt
told_bed (suc (suc (suc (suc n)))) t h = absurd (omega arith)

told_loud : Told (hall_with 0) (calls loud_bed) Reduced
unfolding everything
told_loud = tt

told_object : (n : ℕ) → n ≤ 3 → Told (hall_with n) (calls object) (Above0 512)
unfolding everything
told_object zero h = tt
told_object (suc zero) h = tt
told_object (suc (suc zero)) h = tt
told_object (suc (suc (suc zero))) h = tt
told_object (suc (suc (suc (suc n)))) h = absurd (omega arith)

told_sent : Told (hall_with 0) (calls sent_object) (Above0 768)
unfolding everything
told_sent = tt

told_rear : Told (hall_with 3) (calls_into 1 rear) (FirstWords on_left_surround)
unfolding everything
told_rear = refl

-- ---- what is lent is bytes

abbrev pub small : List ℕ → Bool
small [] = true
small (x ∷ l) = ltb x 256 && small l

pub small_bytes : (l : List ℕ) → T (small l) → Bytes l
small_bytes [] h i = lit< tt
small_bytes (x ∷ l) h zero = ltb→lt x 256 (and_l (ltb x 256) (small l) h)
small_bytes (x ∷ l) h (suc i) = small_bytes l (and_r (ltb x 256) (small l) h) i

pub lent : (pcm meta codes : List ℕ) (objects : ℕ) → T (small pcm) → T (small meta) → T (small codes) → AllLent (calls (frame pcm meta codes objects))
lent pcm meta codes objects p m c = ((small_bytes pcm p, small_bytes meta m, zero_bytes 3072, small_bytes codes c), (zero_bytes 3072, tt))

-- ---- in a renderer that the call m made, in any block, the host sees it of the flush

abbrev pub Sees : Call → List Call → (Seen hall block → Type 0) → Type 0
Sees m cs Q = (b : List ℕ) → Bytes b → length b ≡ block.size → Q (get_or (seen_on hall block (made hall block m b).state cs) 1 unseen)

pub sees : {m : Call} {h : Setup} → MakesHall m h → (cs : List Call) (Q : Seen hall block → Type 0) → AllLent cs → Told h cs Q → Sees m cs Q
sees makes cs Q l t b bs e = subst (λ (s : List (Seen hall block)). Q (get_or s 1 unseen)) (sym (demand3_in makes b bs e cs l).seen) t

-- a sample above 0 at a byte of the output
abbrev pub Hears : Call → Args → ℕ → Type 0
Hears m f at = Sees m (calls f) (Above0 at)

pub heard_of : (m : Call) (h : Setup) → MakesHall m h → Hears m bed 0
heard_of m h makes = sees makes (calls bed) (Above0 0) (lent half one_bed (0 ∷ []) 0 tt tt tt) (told_bed h.layout h.table (made_ranged makes).layout)

pub heard_of_object : (n : ℕ) → n ≤ 3 → Hears (make n) object 512
heard_of_object n h = sees (layout_made n h) (calls object) (Above0 512) (lent half object.meta [] 1 tt tt tt) (told_object n h)

-- R-3: "Mixers want a spaceship to shake the floor": an object alone, on channel 3
pub send_heard : Hears (make 0) sent_object 768
send_heard = sees (layout_made 0 (lit≤ tt)) (calls sent_object) (Above0 768) (lent half sent_update [] 1 tt tt tt) told_sent

-- R-2: "Hall technicians want the meter to show what the limiter met"
pub meters_show : Sees (make 0) (calls loud_bed) Reduced
meters_show = sees (layout_made 0 (lit≤ tt)) (calls loud_bed) Reduced (lent four one_bed (0 ∷ []) 0 tt tt tt) told_loud

-- R-5: "A bed whose speaker is absent is panned at its `bed_channel_position`": in 5.1.0 the top rear left bed, at (-1, 1, -1), on the left surround speaker. "Output places of
-- absent channels are not written": each byte was 1, and still is.
pub absent_heard : Sees (make 3) (calls_into 1 rear) (FirstWords on_left_surround)
absent_heard =
    sees (layout_made 3 (lit≤ tt)) (calls_into 1 rear) (FirstWords on_left_surround)
    ((small_bytes half tt, small_bytes rear_bed tt, zero_bytes 3072, small_bytes (13 ∷ []) tt), (small_bytes (replicate 3072 1) tt, tt)) told_rear
