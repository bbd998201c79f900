-- A block that the limiter gave out is what the rules give, behind the samples that are ready. Assumes nothing.
use mathlib.Core.Path.{◌≡◌, refl, sym, ap, ap₂, ◌∙◌}
use mathlib.Core.Bool.{Bool, true, false, cond}
use mathlib.Core.List.{List, [], ◌∷◌, map}
use Prim.Native.Nat.{ℕ, zero, suc, ◌+◌, ◌*◌, ◌<◌, ◌≤◌}
use native.Mathlib.Nat.{not-suc-le-zero, le_of_suc-le-suc}
use native.Mathlib.Omega.{arith}
use lib.ListN.{take, drop}
use lib.Seq.{take-nil, drop-drop}
use lib.Ieee.{Float, binary32, of_bits, to_bits}
use Rattle.words.specs.Words.{word, float_at, with_float, words_at, with_words}
use Rattle.limiter.specs.Limiter.{block_gain, scaled, scaled_block, grown}
use Rattle.limiter.specs.Meters.{block_meters, meets, meets_all}
use Rattle.limiter.specs.declared.meters.Meters.{Meters}
use Rattle.limiter.specs.declared.Limited.{Limited}
use Rattle.limiter.specs.ChannelPlaces.{floats_at, with_floats, channels, channels_at, with_channels, Given}
use Rattle.panning.specs.Setup.{present, marks_of}
use Rattle.rules.specs.Parts.{Channels, none, twelve, floats}
use Rattle.rules.specs.Samples.{sounding, limited, metered, gain_after, flushed}
use Rattle.rules.specs.BlockCalls.{written_from, written}
use Rattle.formats.specs.Areas.{places_bytes}
use Rattle.store.specs.declared.renderer.Renderer714.{Renderer714}
use Rattle.store.specs.Layout.{places_at, places_of, layout_of, setup_in}
use Rattle.store.specs.Steps.{emptied_by}
use Rattle.store.proofs.Theorems.{places_row, words_drop, words_front}
use Rattle.rendering.specs.declared.Rendering.{Rendering}
use Rattle.rendering.specs.Held.{held}
use Rattle.rendering.specs.Out.{behind_from, behind}
use Rattle.rendering.specs.Give.{Gave, GaveRows}

-- ---- floats and words

floats_words : (s : List ℕ) (at n : ℕ) → floats_at s at n ≡ map (of_bits binary32) (words_at s at n)
unfolding float_at
floats_words s at zero = refl
floats_words s at (suc n) = ap (λ (xs : List Float). float_at s at ∷ xs) (floats_words s (at + 4) n)

-- the first n of m floats
floats_take : (s : List ℕ) (at n m : ℕ) → n ≤ m → take n (map (of_bits binary32) (words_at s at m)) ≡ map (of_bits binary32) (words_at s at n)
floats_take s at zero m h = refl
floats_take s at (suc n) zero h = absurd (not-suc-le-zero h)
floats_take s at (suc n) (suc m) h = ap (λ (xs : List Float). of_bits binary32 (word s at) ∷ xs) (floats_take s (at + 4) n m (le_of_suc-le-suc h))

with_words_is : (s : List ℕ) (at : ℕ) (xs : List Float) → with_floats s at xs ≡ with_words s at (map (to_bits binary32) xs)
unfolding with_float
with_words_is s at [] = refl
with_words_is s at (x ∷ xs) = with_words_is (with_float s at x) (at + 4) xs

-- ---- channels as a list

listed : ℕ → ℕ → Channels → List (List Float)
listed zero c f = []
listed (suc k) c f = f c ∷ listed k (suc c) f

listed_twelve : (f : Channels) → listed 12 0 f ≡ twelve f
unfolding listed
listed_twelve f = refl

-- the marks of k channels from c on; `marks_of` are all twelve
marks : ℕ → ℕ → ℕ → List Bool
marks layout zero c = []
marks layout (suc k) c = present layout c ∷ marks layout k (suc c)

marks_twelve : (layout : ℕ) → marks layout 12 0 ≡ marks_of layout
unfolding marks
marks_twelve layout = refl

module _ (g : Float) (f : Channels) (stride ready : ℕ) where
  channels_behind : (k c : ℕ) (out : List ℕ) → with_channels (scaled_block g (listed k c f)) (4 * stride) (4 * (c * stride + ready)) out
      ≡ behind_from k c ready (λ c. scaled g (f c)) stride out
  unfolding with_channels scaled_block listed
  channels_behind zero c out = refl
  channels_behind (suc k) c out =
      let at = 4 * (c * stride + ready) in
      let a : at + 4 * stride ≡ 4 * (suc c * stride + ready) = omega arith in
      ap₂ (with_channels (scaled_block g (listed k (suc c) f)) (4 * stride)) a (with_words_is out at (scaled g (f c)))
      ∙ channels_behind k (suc c) (with_words out at (map (to_bits binary32) (scaled g (f c))))

-- ---- a block of n samples

block_behind : (g : Float) (f : Channels) (stride ready : ℕ) (out : List ℕ)
    → with_channels (scaled_block (block_gain g (twelve f)) (twelve f)) (4 * stride) (4 * ready) out ≡ behind ready (limited g f) stride out
unfolding behind
block_behind g f stride ready out =
    let a : 4 * ready ≡ 4 * (0 * stride + ready) = omega arith in
    ap (λ (cs : List (List Float)). with_channels (scaled_block (block_gain g cs) cs) (4 * stride) (4 * ready) out) (sym (listed_twelve f))
    ∙ ap (λ (at : ℕ). with_channels (scaled_block (block_gain g (listed 12 0 f)) (listed 12 0 f)) (4 * stride) at out) a
    ∙ channels_behind (block_gain g (listed 12 0 f)) f stride ready 12 0 out
    ∙ ap (λ (cs : List (List Float)). behind_from 12 0 ready (λ c. scaled (block_gain g cs) (f c)) stride out) (listed_twelve f)

module _ (f : Channels) (s : List ℕ) (layout n : ℕ) (e : (c : ℕ) → c < 12 → cond (present layout c) (floats_at s (256 * c) n) [] ≡ f c) where
  channels_listed : (k c : ℕ) → c + k ≤ 12 → channels_at (marks layout k c) n s (256 * c) ≡ listed k c f
  unfolding channels_at marks listed
  channels_listed zero c h = refl
  channels_listed (suc k) c h =
      let a : 256 * c + 256 ≡ 256 * suc c = omega arith in
      ap₂ (λ (x : List Float) (xs : List (List Float)). x ∷ xs) (e c (omega arith))
      (ap (channels_at (marks layout k (suc c)) n s) a ∙ channels_listed k (suc c) (omega arith))

  channels_twelve : channels_at (marks_of layout) n s 0 ≡ twelve f
  channels_twelve = ap (λ (here : List Bool). channels_at here n s 0) (sym (marks_twelve layout)) ∙ channels_listed 12 0 (omega arith) ∙ listed_twelve f

  module _ (stride ready : ℕ) {g : Float} {rate : ℕ} {out : List ℕ} {l : Limited} {out' : List ℕ}
      (given : Given g (marks_of layout) n rate s (4 * stride) (4 * ready) out l out') where
    pub gain_after_is : l.limiter.gain ≡ gain_after n rate g f
    gain_after_is = given.gain ∙ ap (λ (cs : List (List Float)). grown n rate (block_gain g cs)) channels_twelve

    pub meters_of : l.meters ∷ [] ≡ metered g f
    meters_of = ap (λ (m : Meters). m ∷ []) (given.meters ∙ ap (block_meters g) channels_twelve)

    pub given_behind : out' ≡ behind ready (limited g f) stride out
    given_behind =
        given.samples
        ∙ ap (λ (cs : List (List Float)). with_channels (scaled_block (block_gain g cs) cs) (4 * stride) (4 * ready) out) channels_twelve
        ∙ block_behind g f stride ready out

-- the same in rows
module _ (f : Channels) (ys : List Float) (layout : ℕ) (e : (c : ℕ) → c < 12 → cond (present layout c) (take 64 (drop (64 * c) ys)) [] ≡ f c) where
  rows_listed : (k c : ℕ) → c + k ≤ 12 → channels (marks layout k c) 64 (drop (64 * c) ys) ≡ listed k c f
  unfolding channels marks listed
  rows_listed zero c h = refl
  rows_listed (suc k) c h =
      let a : 64 * c + 64 ≡ 64 * suc c = omega arith in
      ap₂ (λ (x : List Float) (xs : List (List Float)). x ∷ xs) (e c (omega arith))
      (ap (channels (marks layout k (suc c)) 64) (drop-drop 64 (64 * c) ys ∙ ap (λ (i : ℕ). drop i ys) a) ∙ rows_listed k (suc c) (omega arith))

  rows_twelve : channels (marks_of layout) 64 ys ≡ twelve f
  rows_twelve = ap (λ (here : List Bool). channels here 64 ys) (sym (marks_twelve layout)) ∙ rows_listed 12 0 (omega arith) ∙ listed_twelve f

-- ---- the places of a block

-- the samples that wait, of the channels that are there
waiting : ℕ → List ℕ → Channels
waiting n b c = take n (sounding (setup_in b) (floats (places_of b)) c)

waiting_at : (n : ℕ) (b : List ℕ) → n ≤ 64 → (c : ℕ) → c < 12
    → cond (present (layout_of b) c) (floats_at (take places_bytes (drop places_at b)) (256 * c) n) [] ≡ waiting n b c
unfolding waiting
waiting_at n b h c m = of_mark (present (layout_of b) c)
  where
    part : List ℕ
    part = take places_bytes (drop places_at b)

    of_mark : (here : Bool) → cond here (floats_at part (256 * c) n) [] ≡ take n (cond here (floats (places_of b) c) [])
    of_mark true =
        floats_words part (256 * c) n
        ∙ ap (map (of_bits binary32)) (words_front (drop places_at b) (256 * c) n places_bytes (omega arith) ∙ sym (words_drop b places_at (256 * c) n))
        ∙ sym (floats_take b (places_at + 256 * c) n 64 h)
        ∙ ap (λ (ws : List ℕ). take n (map (of_bits binary32) ws)) (sym (places_row b c m))
    of_mark false = sym (take-nil n)

-- what `give` leaves
pub gave : (w : Rendering) (b out : List ℕ) (stride : ℕ) {l : Limited} {r : Rendering} {out' : List ℕ} → w.renderer.pending ≤ 64
    → r.renderer ≡ emptied_by w.renderer l.limiter → r.ready ≡ w.ready + w.renderer.pending → r.meters ≡ meets w.meters l.meters
    → Given w.renderer.limiter.gain (marks_of (layout_of b)) w.renderer.pending w.renderer.rate (take places_bytes (drop places_at b)) (4 * stride) (4 * w.ready) out l out'
    → Gave w b stride out r out'
unfolding flushed waiting
gave w b out stride m p n o given =
    let s = w.renderer in
    let e = waiting_at s.pending b m in
    let f = waiting s.pending b in
    let part = take places_bytes (drop places_at b) in
    record {
      next = ap (λ (r : Renderer714). held r b) (p ∙ ap (λ (g : Float). emptied_by s (record { gain = g })) (gain_after_is f part (layout_of b) s.pending e stride w.ready given));
      given = given_behind f part (layout_of b) s.pending e stride w.ready given;
      ready = n;
      meters = o ∙ ap (meets_all w.meters) (meters_of f part (layout_of b) s.pending e stride w.ready given);
    }

-- what `give_rows` leaves, where the block's places of the channels that are there are the rows
pub gave_rows : (w : Rendering) (b : List ℕ) (ys : List Float) (out : List ℕ) (stride : ℕ) {r : Rendering} {out' : List ℕ} → w.renderer.pending ≡ 64
    → ((c : ℕ) → c < 12 → present (layout_of b) c ≡ true → take 64 (drop (64 * c) ys) ≡ take w.renderer.pending (floats (places_of b) c))
    → GaveRows (marks_of (layout_of b)) w ys stride out r out' → Gave w b stride out r out'
unfolding flushed
gave_rows w b ys out stride z e given =
    let s = w.renderer in
    let g = s.limiter.gain in
    let f : Channels = λ c. take s.pending (sounding (setup_in b) (floats (places_of b)) c) in
    let t = rows_twelve f ys (layout_of b) (λ c l. of_mark c l (present (layout_of b) c) refl) in
    record {
      next = ap (λ (r : Renderer714). held r b)
          (given.renderer ∙ ap₂ (λ (n : ℕ) (cs : List (List Float)). emptied_by s (record { gain = grown n s.rate (block_gain g cs) })) (sym z) t);
      given = given.given ∙ ap (λ (cs : List (List Float)). with_channels (scaled_block (block_gain g cs) cs) (4 * stride) (4 * w.ready) out) t
          ∙ block_behind g f stride w.ready out;
      ready = given.ready ∙ ap (λ (n : ℕ). w.ready + n) (sym z);
      meters = given.meters ∙ ap (λ (cs : List (List Float)). meets w.meters (block_meters g cs)) t;
    }
  where
    of_mark : (c : ℕ) → c < 12 → (here : Bool) → present (layout_of b) c ≡ here
        → cond here (take 64 (drop (64 * c) ys)) [] ≡ take w.renderer.pending (cond here (floats (places_of b) c) [])
    of_mark c l true h = e c l h
    of_mark c l false h = sym (take-nil w.renderer.pending)

-- ---- nothing behind others, and behind nothing

pub none_behind : (k stride : ℕ) (out : List ℕ) → behind k none stride out ≡ out
unfolding behind
none_behind k stride out = refl

behind_none : (given : Channels) (stride : ℕ) (k c : ℕ) (out : List ℕ) → behind_from k c 0 given stride out ≡ written_from k c given stride out
behind_none given stride zero c out = refl
behind_none given stride (suc k) c out =
    let a : 4 * (c * stride + 0) ≡ 4 * (c * stride) = omega arith in
    ap (λ (at : ℕ). behind_from k (suc c) 0 given stride (with_words out at (map (to_bits binary32) (given c)))) a
    ∙ behind_none given stride k (suc c) (with_words out (4 * (c * stride)) (map (to_bits binary32) (given c)))

pub behind_written : (given : Channels) (stride : ℕ) (out : List ℕ) → behind 0 given stride out ≡ written given stride out
unfolding behind written
behind_written given stride out = behind_none given stride 12 0 out
