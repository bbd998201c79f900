-- A push into a scene without beds and objects: whatever its PCM, it sounds +0.0 on every channel where the low-pass remembers only +0.0, and so its blocks have the peak +0.0.
-- Assumes nothing beyond `Facts`.
use mathlib.Core.Path.{◌≡◌, refl, sym, ap, ap₂, ◌∙◌, subst}
use mathlib.Core.Bool.{Bool, true, false, cond}
use mathlib.Core.List.{List, [], ◌∷◌, ◌++◌, map}
use Prim.Native.Nat.{ℕ, zero, suc, ◌+◌, ◌*◌, ◌%◌, ◌≤◌, ◌<◌}
use native.Mathlib.Nat.{le_of_lt, le_refl}
use native.Mathlib.Omega.{arith}
use lib.Dec.{eqb}
use lib.ListN.{length, length-append, take, drop}
use lib.Ieee.{Float}
use Rattle.std.proofs.lemmas.List.{map-append}
use Rattle.words.specs.Words.{Bytes}
use Rattle.ieee.specs.Bounds.{All}
use Rattle.mixing.specs.Sums.{total}
use Rattle.lowpass.specs.Lowpass.{output, next}
use Rattle.lowpass.proofs.Silence.{Still, still_output, still_next}
use Rattle.limiter.specs.declared.meters.Meters.{Meters}
use Rattle.limiter.proofs.Theorems.{Zero, silent_peak}
use Rattle.panning.specs.Setup.{Setup}
use Rattle.rules.specs.Parts.{0·0, Channels, floats, twelve}
use Rattle.rules.specs.Leaves.{Leaves, Shape, Bed, started}
use Rattle.rules.specs.Mix.{Moment, beds_on, objects_on, heard}
use Rattle.rules.specs.Samples.{Frame, State, sounding, metered, updated, slotted, moment, opened, pushed, waiting}
use Rattle.rules.specs.Refusals.{Args, clear}
use Rattle.rules.specs.Calls.{updates_in, frame_of, found}
use Rattle.rules.specs.Sounds.{nth_block, gain_before, blocks_metered, before, met, moment_at, sound_at, sounds, unlimited, whole}
use Rattle.rules.specs.BlockCalls.{Layout}
use Rattle.rules.specs.Returning.{peaks}
use Rattle.rules.proofs.EachOf.{either, all_append, all_sounding, all_take}
use Rattle.rules.proofs.Owed.{Facts}
use Rattle.rules.proofs.Invariant.{Good, Admitted, Rest, before_good}
use Rattle.rules.proofs.Moments.{next_at}
use Rattle.rules.proofs.OneMore.{moment_is}
use Rattle.rules.proofs.PushShapes.{slotted_shape}
use Rattle.rules.proofs.Sounding.{good_at, enters_at, line}
use Rattle.rules.proofs.Pushes as pushes

-- ---- blocks of silence
all_drop : {A : Type 0} (P : A → Type 0) (n : ℕ) (xs : List A) → All P xs → All P (drop n xs)
all_drop P zero xs h = h
all_drop P (suc n) [] h = tt
all_drop P (suc n) (x ∷ xs) h = all_drop P n xs h.1

module _ (f : Channels) (z : (c : ℕ) → All Zero (f c)) where
  silent_block : (k c : ℕ) → All Zero (nth_block f k c)
  silent_block k c = all_take Zero 64 (drop (64 * k) (f c)) (all_drop Zero (64 * k) (f c) (z c))

  block_peaks : (rate : ℕ) (g : Float) (n : ℕ) → (All Zero (peaks (blocks_metered rate g f n))) × (length (peaks (blocks_metered rate g f n)) ≡ n)
  block_peaks rate g zero = (tt, refl)
  block_peaks rate g (suc n) =
      let i = block_peaks rate g n in
      let ms = blocks_metered rate g f n in
      let one = metered (gain_before rate g f n) (nth_block f n) in
      let b = silent_block n in
      let e = map-append (λ (m : Meters). m.peak) ms one in (
        subst (All Zero) (sym e) (all_append Zero (peaks ms) (peaks one) i.0
            (silent_peak (twelve (nth_block f n)) (b 0, (b 1, (b 2, (b 3, (b 4, (b 5, (b 6, (b 7, (b 8, (b 9, (b 10, (b 11, tt)))))))))))), tt)),
        ap length e ∙ length-append (peaks ms) (peaks one) ∙ ap (λ (k : ℕ). k + 1) i.1 ∙ (let q : n + 1 ≡ suc n = omega arith in q),
      )

-- a scene without beds and objects
abbrev pub empty : Shape
empty = record { started = true; objects = 0; beds = [] }

none_long : {A : Type 0} (xs : List A) → length xs ≡ 0 → xs ≡ []
none_long [] e = refl
none_long (x ∷ xs) e = absurd (omega arith)

none_of : {A X : Type 0} (f : A → X) (xs : List A) → map f xs ≡ [] → xs ≡ []
none_of f [] e = refl
none_of f (x ∷ xs) e = let n : ◌≡◌ {A = ℕ} (suc (length (map f xs))) 0 = ap length e in absurd (omega arith)

none_there : {A : Type 0} (b : Bool) {xs : List A} → xs ≡ [] → cond b xs [] ≡ []
none_there true e = e
none_there false e = refl

module _ (L : Leaves) (B : Layout L) (F : Facts L B) where
  module _ (m : L.Meta) (s : F.Sound m) (e : L.shape m ≡ empty) where
    on : started L m ≡ true
    on = ap (λ (x : Shape). x.started) e

    no_beds : L.beds m ≡ []
    no_beds = none_of (λ (b : Bed). b.code) (L.beds m) (F.shape_beds m s on ∙ ap (λ (x : Shape). x.beds) e)

    no_objects : L.objects m ≡ []
    no_objects = none_long (L.objects m) (F.shape_objects m s on ∙ ap (λ (x : Shape). x.objects) e)

    nothing_heard : (f : Frame L.Update) (t : ℕ) (h : Setup) (c : ℕ) → heard (moment L f t h m) c ≡ 0·0
    unfolding heard
    nothing_heard f t h c =
        let x = moment L f t h m in
        ap₂ (λ bs os. total 0·0 (beds_on h c bs f.codes x.inputs ++ objects_on h c os x.own)) (none_there (started L m) no_beds) (none_there (started L m) no_objects)

  -- y, which the push a leaves of r, is as still
  pub record Passes (r : State L) (a : Args) (y : State L) : Type 0 where
    pub good : Good L B F y
    pub rate : y.rate ≡ a.rate
    pub position : y.clock.position ≡ r.clock.position + a.samples
    pub count : y.pending.count ≡ (r.pending.count + a.samples) % 64
    pub scene : L.shape y.meta ≡ empty
    pub still : Still y.filter

  module _ (r : State L) (a : Args) (b : Bytes a.pcm) (m : Bytes a.meta) (rest : Rest L B F r) (e : found L r a ≡ clear) (none : updates_in L r a ≡ [])
      (bare : L.shape r.meta ≡ empty) (calm : Still (opened L a.rate r).filter) where
    abbrev f : Frame L.Update
    f = frame_of L r a

    abbrev s : ℕ → State L
    s t = before L r a t

    k : Admitted L B F f
    k = pushes.k L B F r a b m rest e

    good : Good L B F (opened L a.rate r)
    good = pushes.good L B F r a b m rest e

    at_rate : (opened L a.rate r).rate ≡ a.rate
    at_rate = pushes.at_rate L B F r a b m rest e

    well : (t : ℕ) → t ≤ a.samples → Good L B F (s t)
    well t h = good_at L B F r a k good at_rate t h

    -- what a sample finds
    met_sound : (t : ℕ) → t ≤ a.samples → F.Sound (met L r a t).meta
    met_sound t h = (before_good L B F t f.updates (s t) k.updates (well t h)).steady.meta

    met_scene : (t : ℕ) → t ≤ a.samples → L.shape (s t).meta ≡ empty → L.shape (met L r a t).meta ≡ empty
    met_scene t h q =
        ap (λ (us : List L.Update). L.shape (slotted L (updated L t us (s t))).meta) none
        ∙ slotted_shape L B F (s t) (λ n. F.shape_slot n (s t).meta (well t h).steady.meta) ∙ q

    pub scene_at : (t : ℕ) → t ≤ a.samples → L.shape (s t).meta ≡ empty
    scene_at zero h = bare
    scene_at (suc t) h = ap (λ (x : State L). L.shape x.meta) (next_at L f (opened L a.rate r) t) ∙ met_scene t (le_of_lt h) (scene_at t (le_of_lt h))

    silent : (t c : ℕ) → t < a.samples → heard (moment_at L r a t) c ≡ 0·0
    silent t c h =
        let v = met L r a t in
        ap (λ (x : Moment). heard x c) (moment_is L r a t h)
        ∙ nothing_heard v.meta (met_sound t (le_of_lt h)) (met_scene t (le_of_lt h) (scene_at t (le_of_lt h))) f t v.setup c

    pub still_at : (t : ℕ) → t ≤ a.samples → Still (s t).filter
    still_at zero h = calm
    still_at (suc t) h =
        subst Still (sym (enters_at L B F r a k good at_rate t h ∙ ap (next (s t).filter) (silent t 3 h))) (still_next (well t (le_of_lt h)).calm (still_at t (le_of_lt h)))

    sounds_zero : (t c : ℕ) → t < a.samples → sound_at L r a c t ≡ 0·0
    sounds_zero t c h =
        either Zero (eqb c 3) (ap (output (s t).filter) (silent t 3 h) ∙ still_output (well t (le_of_lt h)).calm (still_at t (le_of_lt h))) (silent t c h)

    all_zero : (n : ℕ) → n ≤ a.samples → (c : ℕ) → All Zero (sounds L r a n c)
    all_zero zero h c = tt
    all_zero (suc n) h c =
        all_append Zero (sounds L r a n c) (sounding r.setup (λ c. sound_at L r a c n ∷ []) c) (all_zero n (le_of_lt h) c)
        (all_sounding r.setup Zero (λ c. sound_at L r a c n ∷ []) c (sounds_zero n c h, tt))

    -- with no samples that wait
    module _ (empty_handed : r.pending.count ≡ 0) where
      unlimited_zero : (c : ℕ) → All Zero (unlimited L r a c)
      unlimited_zero c =
          all_append Zero (waiting L r c) (sounds L r a a.samples c) (subst (λ (n : ℕ). All Zero (take n (sounding r.setup (floats r.pending.places) c))) (sym empty_handed) tt)
          (all_zero a.samples (le_refl a.samples) c)

      pub silent_peaks : let ps = peaks (pushed L f r).meters in (All Zero ps) × (length ps ≡ whole L r a)
      unfolding pushed
      silent_peaks =
          let z = block_peaks (unlimited L r a) unlimited_zero a.rate r.limiter.gain (whole L r a) in
          let i = (line L B F r a k good at_rate a.samples (le_refl a.samples)).meters in
          (subst (λ ms. All Zero (peaks ms)) (sym i) z.0, ap (λ ms. length (peaks ms)) i ∙ z.1)

    pub passes : Passes r a (pushed L f r).next
    unfolding pushed
    passes =
        let all = le_refl a.samples in
        let i = line L B F r a k good at_rate a.samples all in
        record { good = well a.samples all; rate = i.rate; position = i.position; count = i.pending; scene = scene_at a.samples all; still = still_at a.samples all }
