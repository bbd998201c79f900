-- A level that does return, so that R-8's premises are not empty: at 8,000 samples a second an explosion of one sample, which a flush gives out and which turns the hall down, and
-- then 127 pushes of 64 samples that nothing is heard in. Floor(8000 / 64) + 2 is 127. Assumes nothing.
use Prim.Native.Nat.{ℕ, zero, suc, ◌+◌, ◌*◌, ◌/◌, ◌%◌, ◌≤◌}
use native.Mathlib.Omega.{arith}
use mathlib.Core.Path.{◌≡◌, refl, sym, ap, ap₂, ◌∙◌, subst}
use mathlib.Core.Logic.{inl, inr}
use mathlib.Core.Bool.{true, cond}
use mathlib.Core.List.{List, [], ◌∷◌, ◌++◌}
use lib.Dec.{T, eqb, lit≤, lit<}
use lib.ListN.{length, length-append, replicate}
use lib.Ieee as ieee
use lib.Ieee.{Float, lt, le}
use Rattle.ieee.specs.Bounds.{All}
use Rattle.words.specs.Words.{Bytes}
use Rattle.lowpass.specs.Lowpass.{new}
use Rattle.lowpass.proofs.Silence.{Still}
use Rattle.limiter.specs.Level.{Level}
use Rattle.limiter.specs.Return.{ZeroToOne, Quiet}
use Rattle.limiter.proofs.Theorems.{Zero, fraction, low_peaks_quiet}
use Rattle.panning.specs.Setup.{hall_with}
use Rattle.panning.proofs.Theorems.{hall_fits}
use Rattle.rules.specs.Parts.{0·0, 1·0}
use Rattle.rules.specs.Samples.{State, fresh, opened, pushed}
use Rattle.rules.specs.Refusals.{Args, Found, clear, never}
use Rattle.rules.specs.Calls.{Call, push, flush, make, updates_in, ahead_after, frame_of, found, asked, step, final}
use Rattle.rules.specs.Accepted.{Suits, Acceptable}
use Rattle.rules.specs.BlockCalls.{made, final_on}
use Rattle.rules.specs.Demand3.{AllLent}
use Rattle.rules.specs.Returning.{pushes_blocks, completed, all_completed, Unbroken, QuietRow}
use Rattle.rules.proofs.EachOf.{all_append}
use Rattle.rules.proofs.Invariant.{Rest, fresh_rest, settled_good}
use Rattle.rules.proofs.Called.{called}
use Rattle.rules.proofs.EmptyScene as scene
use Rattle.rules.proofs.EmptyScene.{empty}
use Rattle.rules.proofs.Theorems.{accepts}
use Rattle.waits.specs.Settled.{fits, area_settled}
use Rattle.theorem.specs.Instance.{Sent, sent_in, hall, block}
use Rattle.theorem.proofs.ZeroBytes.{zero_bytes}
use Rattle.theorem.proofs.BlockRanges.{AllRanged, back_of}
use Rattle.theorem.proofs.Demand3.{facts, layout_made, made_ranged, demand3_in, fresh_within, stepped_within}
use Rattle.theorem.proofs.Heard.{four, one_bed, small_bytes}
use Rattle.theorem.specs.GainPlace.{gain_held}
use Rattle.theorem.proofs.LevelReturned.{gain_there, level_returns}
use Rattle.theorem.proofs.Opened.{everything}

-- ---- the calls

-- two samples of 4.0: the first a bed channel of the code 0; an update at the second leaves neither beds nor objects
abbrev loud : Args
loud = record {
  pcm = four ++ four;
  meta = one_bed ++ (1 ∷ 0 ∷ 1 ∷ replicate 37 0);
  out = replicate 3072 0;
  codes = 0 ∷ [];
  rate = 8000;
  samples = 2;
  objects = 0;
  stride = 64;
}

abbrev pub explosion : List Call
explosion = push loud ∷ flush (replicate 3072 0) 64 ∷ []

abbrev pub still : Args
still = record { pcm = replicate 256 0; meta = []; out = replicate 3072 0; codes = 0 ∷ []; rate = 8000; samples = 64; objects = 0; stride = 64 }

abbrev pub stills : ℕ → List Call
stills zero = []
stills (suc n) = push still ∷ stills n

-- ---- after the explosion

abbrev pub struck : State hall
struck = final hall (fresh hall (hall_with 0)) explosion

turned_down : lt struck.limiter.gain 1·0 ≡ true
unfolding everything
turned_down = refl

from_there : ZeroToOne struck.limiter.gain
unfolding everything ieee.fits
from_there = record { fit = tt; low = tt; high = tt }

remembers : Still struck.filter
unfolding everything
remembers = record { x1 = refl; x2 = refl; y1 = refl; y2 = refl }

-- ---- a renderer with nothing to hear and room for n pushes more
record Ready (n : ℕ) (r : State hall) : Type 0 where
  rest : Rest hall block facts r
  rate : r.rate ≡ 8000
  none : r.pending.count ≡ 0
  room : r.clock.position + 64 * n ≤ 1099511627776
  scene : hall.shape r.meta ≡ empty
  quiet : Still r.filter
  alone : r.waits ≡ hall.no_waits

rest_along : (cs : List Call) (r : State hall) → AllLent cs → Rest hall block facts r → Rest hall block facts (final hall r cs)
rest_along [] r h i = i
rest_along (c ∷ cs) r h i = rest_along cs (step hall r c).next h.1 (called hall block facts r i c h.0).rest

lent_explosion : AllLent explosion
lent_explosion = ((small_bytes loud.pcm tt, small_bytes loud.meta tt, zero_bytes 3072, small_bytes loud.codes tt), (zero_bytes 3072, tt))

struck_ready : Ready 127 struck
unfolding everything
struck_ready = record {
  rest = rest_along explosion (fresh hall (hall_with 0)) lent_explosion (fresh_rest hall block facts (hall_with 0) (hall_fits 0 (lit≤ tt)));
  rate = refl;
  none = refl;
  room = lit≤ tt;
  scene = refl;
  quiet = remembers;
  alone = refl;
}

-- ---- nothing waits, and nothing is sent that could
no_updates_in : (start : ℕ) → sent_in start 64 hall.no_waits [] ≡ []
unfolding everything
no_updates_in start = refl

fits_in : (start : ℕ) → fits start 64 hall.no_waits [] ≡ true
unfolding everything
fits_in start = refl

settled_in : (start : ℕ) → area_settled start 64 hall.no_waits [] ≡ hall.no_waits
unfolding everything
settled_in start = refl

-- ---- one push
module _ (n : ℕ) (r : State hall) (i : Ready (suc n) r) where
  no_updates : updates_in hall r still ≡ []
  no_updates = subst (λ (ws : List ℕ). sent_in r.clock.position 64 ws [] ≡ []) (sym i.alone) (no_updates_in r.clock.position)

  acceptable : Acceptable hall r still
  unfolding everything
  acceptable =
      let p = i.room in
      record {
        room = refl;
        sized = refl;
        listed = refl;
        position = omega arith;
        laid_out = refl;
        in_range = refl;
        passes = refl;
        rate = inr i.rate;
        told = inl (ap (λ s. s.started) i.scene);
        fits = subst (λ (ws : List ℕ). fits r.clock.position 64 ws [] ≡ true) (sym i.alone) (fits_in r.clock.position);
        some = lit< tt;
        present = λ e. subst (λ s. Suits 0 (0 ∷ []) s) (sym i.scene) (record { objects = refl; beds = tt });
        updates = subst (All (λ (u : Sent). (u.offset ≡ never → ⊥) → Suits 0 (0 ∷ []) (hall.sent u))) (sym no_updates) tt;
      }

  taken : found hall r still ≡ clear
  taken = accepts hall r still acceptable

  opened_still : Still (opened hall 8000 r).filter
  opened_still = subst (λ (k : ℕ). Still (cond (eqb k 0) (new 8000) r.filter)) (sym i.rate) i.quiet

  passes : scene.Passes hall block facts r still (pushed hall (frame_of hall r still) r).next
  passes = scene.passes hall block facts r still (zero_bytes 256) (small_bytes [] tt) i.rest taken no_updates i.scene opened_still

  -- its one block is silent
  block_peaks : let ps = completed hall r (push still) in All Zero ps × (length ps ≡ 1)
  block_peaks =
      let z = scene.silent_peaks hall block facts r still (zero_bytes 256) (small_bytes [] tt) i.rest taken no_updates i.scene opened_still i.none in
      subst (λ (v : Found). All Zero (pushes_blocks hall v r still) × (length (pushes_blocks hall v r still) ≡ 1)) (sym taken)
      (z.0, z.1 ∙ ap (λ (k : ℕ). (k + 64) / 64) i.none)

  ready_next : Ready n (step hall r (push still)).next
  ready_next =
      let p = passes in
      let room = i.room in
      let at = p.position in
      let settled : ahead_after hall r still ≡ hall.no_waits = subst (λ (ws : List ℕ). area_settled r.clock.position 64 ws [] ≡ hall.no_waits) (sym i.alone) (settled_in r.clock.position) in
      let kept : facts.Kept (ahead_after hall r still) = subst facts.Kept (sym settled) facts.kept_none in
      subst (λ (v : Found). Ready n (asked hall v still r).next) (sym taken)
      (record { rest = inr (settled_good hall block facts (ahead_after hall r still) (pushed hall (frame_of hall r still) r).next kept p.good); rate = p.rate; none = p.count ∙ ap (λ (k : ℕ). (k + 64) % 64) i.none; room = omega arith; scene = p.scene; quiet = p.still; alone = settled })

-- ---- all of them
all_silent : (n : ℕ) (r : State hall) → Ready n r → let ps = all_completed hall r (stills n) in All Zero ps × (length ps ≡ n)
all_silent zero r i = (tt, refl)
all_silent (suc n) r i =
    let one = block_peaks n r i in
    let s = (step hall r (push still)).next in
    let more = all_silent n s (ready_next n r i) in (
      all_append Zero (completed hall r (push still)) (all_completed hall s (stills n)) one.0 more.0,
      length-append (completed hall r (push still)) (all_completed hall s (stills n)) ∙ ap₂ (λ (a b : ℕ). a + b) one.1 more.1 ∙ (let e : 1 + n ≡ suc n = omega arith in e),
    )

at_rate : (n : ℕ) (r : State hall) → Ready n r → (final hall r (stills n)).rate ≡ 8000
at_rate zero r i = i.rate
at_rate (suc n) r i = at_rate n (step hall r (push still)).next (ready_next n r i)

unbroken : (n : ℕ) (r : State hall) → Unbroken hall r (stills n)
unbroken zero r = tt
unbroken (suc n) r = (tt, unbroken n (step hall r (push still)).next)

-- silence is a level, at most 1
silent_levels : (ps : List Float) → All Zero ps → All Level ps × All (λ (p : Float). T (le p 1·0)) ps
unfolding everything ieee.fits
silent_levels [] h = (tt, tt)
silent_levels (p ∷ ps) h =
    let one : Level 0·0 × T (le 0·0 1·0) = (record { fit = tt; number = refl; plus = refl }, tt) in
    let now = subst (λ (x : Float). Level x × T (le x 1·0)) (sym h.0) one in
    let more = silent_levels ps h.1 in
    ((now.0, more.0), (now.1, more.1))

quiet_row : QuietRow hall struck (stills 127)
quiet_row =
    let z = all_silent 127 struck struck_ready in
    let k = at_rate 127 struck struck_ready in
    let ps = all_completed hall struck (stills 127) in
    let l = silent_levels ps z.0 in
    record {
      unbroken = unbroken 127 struck;
      earlier = [];
      last = ps;
      blocks = refl;
      enough = subst (λ (n : ℕ). n / 64 + 2 ≤ length ps) (sym k) (subst (λ (n : ℕ). 127 ≤ n) (sym z.1) (lit≤ tt));
      quiet = subst (λ (n : ℕ). Quiet n struck.limiter.gain ps) (sym k)
          (low_peaks_quiet 8000 (lit≤ tt) (lit≤ tt) struck.limiter.gain (fraction struck.limiter.gain from_there) ps l.0 l.1);
    }

-- ---- on the bytes of a block in which the renderer was made

lent_stills : (n : ℕ) → AllLent (stills n)
lent_stills zero = tt
lent_stills (suc n) = ((zero_bytes 256, small_bytes [] tt, zero_bytes 3072, small_bytes still.codes tt), lent_stills n)

ranged_along : (cs : List Call) (r : State hall) → AllLent cs → AllRanged r → AllRanged (final hall r cs)
ranged_along [] r h g = g
ranged_along (c ∷ cs) r h g = ranged_along cs (step hall r c).next h.1 (stepped_within r c h.0 g)

gain_after : (b : List ℕ) → Bytes b → length b ≡ block.size → (cs : List Call) → AllLent cs
    → gain_held (final_on hall block (made hall block (make 0) b).state cs) ≡ (final hall (fresh hall (hall_with 0)) cs).limiter.gain
gain_after b bytes e cs h =
    let m = layout_made 0 (lit≤ tt) in
    let s = final hall (fresh hall (hall_with 0)) cs in
    ap gain_held (demand3_in m b bytes e cs h).block
    ∙ sym (gain_there (block.encode s))
    ∙ ap (λ (r : State hall). r.limiter.gain) (back_of s (ranged_along cs (fresh hall (hall_with 0)) h (fresh_within (hall_with 0) (made_ranged m))))

-- the gain is below 1 after the explosion, and 1 after the last of the blocks
pub level_back : (b : List ℕ) → Bytes b → length b ≡ block.size → let left : List Call → Float = λ cs. gain_held (final_on hall block (made hall block (make 0) b).state cs) in
    (lt (left explosion) 1·0 ≡ true) × (left (explosion ++ stills 127) ≡ 1·0)
level_back b bytes e = (
  ap (λ (g : Float). lt g 1·0) (gain_after b bytes e explosion lent_explosion) ∙ turned_down,
  gain_after b bytes e (explosion ++ stills 127) (lent_explosion.0, (lent_explosion.1.0, lent_stills 127)) ∙ level_returns struck from_there (stills 127) quiet_row,
)
