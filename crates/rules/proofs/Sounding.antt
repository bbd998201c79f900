-- What a push sounds like: each sample is laid behind those that wait, and whole blocks are limited one after another. Assumes nothing beyond `Facts`.
use mathlib.Core.Path.{◌≡◌, refl, sym, ap, ap₂, ◌∙◌, subst}
use mathlib.Core.Logic.{inl, inr}
use mathlib.Core.Bool.{Bool, true, false, cond}
use mathlib.Core.List.{List, [], ◌∷◌, ◌++◌, append-nil, append_assoc}
use Prim.Native.Nat.{ℕ, zero, suc, ◌+◌, ◌*◌, ◌/◌, ◌%◌, ◌≤◌, ◌<◌, zero-le}
use native.Mathlib.Nat.{le_of_lt}
use native.Mathlib.Omega.{arith}
use borrow.Author.Tests.{leb-true, leb-false}
use lib.Dec.{T, eqb, leb}
use lib.ListN.{length, take, drop, get_or, length-append, drop_of_length-le}
use lib.Seq.{take_all, take-take, take-nil, get_or-set_same}
use lib.Ieee.{Float, binary32, fits, to_bits, of_bits}
use Rattle.lowpass.specs.Lowpass.{next}
use Rattle.lowpass.proofs.Calm.{output_bounded}
use Rattle.limiter.specs.declared.meters.Meters.{Meters}
use Rattle.panning.specs.Setup.{Setup, present}
use Rattle.rules.specs.Parts.{Channels, none, floats}
use Rattle.rules.specs.Leaves.{Leaves}
use Rattle.rules.specs.Mix.{fed}
use Rattle.rules.specs.Samples.{Frame, State, sounding, limited, metered, gain_after, framed, opened, waiting}
use Rattle.rules.specs.Refusals.{Args}
use Rattle.rules.specs.Calls.{frame_of}
use Rattle.rules.specs.Sounds.{nth_block, gain_before, limited_blocks, blocks_metered, before, met, moment_at, sound_at, sounds}
use Rattle.rules.specs.Promises.{count_on}
use Rattle.rules.specs.BlockCalls.{Layout}
use Rattle.rules.proofs.EachOf.{T_true, length_map, either, length_sounding, count_most, count_sum, all_or_none}
use Rattle.rules.proofs.Owed.{Facts}
use Rattle.rules.proofs.ChannelBound.{most_range, Hearable, heard_bounded}
use Rattle.rules.proofs.Invariant.{Good, Admitted, before_good, moment_hearable}
use Rattle.rules.proofs.Frames.{framed_fine, length_waiting}
use Rattle.rules.proofs.OneMore.{moment_is, more, next_is, given_is, meters_are, hall_at, places_are}
use Rattle.rules.proofs.Blockwise.{Enough, drop_behind, Same, same_limited, same_gain, same_metered, behind, gain_behind, blocks_behind, metered_behind, laid_behind}

module _ (L : Leaves) where
  module _ (B : Layout L) (F : Facts L B) (r : State L) (a : Args) (k : Admitted L B F (frame_of L r a)) (good : Good L B F (opened L a.rate r))
      (at_rate : (opened L a.rate r).rate ≡ a.rate) where
    abbrev f : Frame L.Update
    f = frame_of L r a

    abbrev start : State L
    start = opened L a.rate r

    abbrev s : ℕ → State L
    s t = before L r a t

    pub good_at : (t : ℕ) → t ≤ a.samples → Good L B F (s t)
    good_at t h = (framed_fine L B F f k t 0 (omega arith) start good).next

    pub hearable_at : (t : ℕ) → t < a.samples → Hearable (moment_at L r a t)
    hearable_at t h =
        let i = before_good L B F t f.updates (s t) k.updates (good_at t (le_of_lt h)) in
        subst Hearable (sym (moment_is L r a t h)) (moment_hearable L B F f k t h (met L r a t).setup i.steady.hall (met L r a t).meta i.steady.meta)

    -- ---- the sample that is laid
    sound_fits : (t c : ℕ) → t < a.samples → T (fits binary32 (sound_at L r a c t))
    sound_fits t c h =
        let m = hearable_at t h in
        either (λ (x : Float). T (fits binary32 x)) (eqb c 3)
        (output_bounded most_range (good_at t (le_of_lt h)).calm (heard_bounded (moment_at L r a t) m 3)).f32.fit (heard_bounded (moment_at L r a t) m c).f32.fit

    long_at : (t c : ℕ) → t ≤ a.samples → c < 12 → length ((s t).pending.places c) ≡ 64
    long_at t c h l = (good_at t h).steady.long c l

    long_more : (t c : ℕ) → t < a.samples → c < 12 → length ((more L r a t).next.pending.places c) ≡ 64
    long_more t c h l = ap (λ (x : State L). length (x.pending.places c)) (sym (next_is L r a t h)) ∙ long_at (suc t) c h l

    -- the sample of each channel that is there
    abbrev one : ℕ → Channels
    one t = sounding r.setup (λ c. sound_at L r a c t ∷ [])

    -- with the sample behind them, the samples that wait
    filled : (t c : ℕ) → t < a.samples → c < 12 → take ((s t).pending.count + 1) (sounding (s t).setup (floats (more L r a t).next.pending.places) c) ≡ waiting L (s t) c ++ one t c
    filled t c h l =
        ap (λ (e : Setup). take ((s t).pending.count + 1) (sounding e (floats (more L r a t).next.pending.places) c)) (hall_at L r a t)
        ∙ go (present r.setup.layout c) refl
        ∙ ap (λ (e : Setup). take (s t).pending.count (sounding e (floats (s t).pending.places) c) ++ one t c) (sym (hall_at L r a t))
      where
        few : (s t).pending.count < 64
        few = (good_at t (le_of_lt h)).steady.few

        long : length ((s t).pending.places c) ≡ 64
        long = long_at t c (le_of_lt h) l

        go : (b : Bool) → present r.setup.layout c ≡ b → take ((s t).pending.count + 1) (cond b (floats (more L r a t).next.pending.places c) [])
            ≡ take (s t).pending.count (cond b (floats (s t).pending.places c) []) ++ cond b (sound_at L r a c t ∷ []) []
        go true e =
            ap (λ (ws : List ℕ). take ((s t).pending.count + 1) (Rattle.rules.specs.Parts.floats (λ d. ws) c)) (places_are L r a t c e)
            ∙ laid_behind (s t).pending.count ((s t).pending.places c) (sound_at L r a c t) (omega (arith, few, long)) (sound_fits t c h)
        go false e = take-nil ((s t).pending.count + 1) ∙ sym (append-nil (take (s t).pending.count []) ∙ take-nil (s t).pending.count)

    -- ---- the limiter's blocks, after t samples
    abbrev met_by : ℕ → Channels
    met_by t c = waiting L r c ++ sounds L r a t c

    abbrev blocks : ℕ → ℕ
    blocks t = (r.pending.count + t) / 64

    pub record Line (t : ℕ) : Type 0 where
      pub rate : (s t).rate ≡ a.rate
      pub position : (s t).clock.position ≡ r.clock.position + t
      pub pending : (s t).pending.count ≡ (r.pending.count + t) % 64
      pub long : (c : ℕ) → c < 12 → length (met_by t c) ≡ count_on r.setup (r.pending.count + t) c
      pub gain : (s t).limiter.gain ≡ gain_before a.rate r.limiter.gain (met_by t) (blocks t)
      pub given : Same (framed L f t 0 start).given (limited_blocks a.rate r.limiter.gain (met_by t) (blocks t))
      pub meters : (framed L f t 0 start).meters ≡ blocks_metered a.rate r.limiter.gain (met_by t) (blocks t)
      pub waits : Same (waiting L (s t)) (λ c. drop (64 * blocks t) (met_by t c))

    module _ (t : ℕ) (h : t < a.samples) (i : Line t) where
      abbrev p : ℕ
      p = (s t).pending.count

      abbrev block : Channels
      block = sounding (s t).setup (floats (more L r a t).next.pending.places)

      few : p < 64
      few = (good_at t (le_of_lt h)).steady.few

      grows : behind (met_by t) (one t) ≡ met_by (suc t)
      grows = λ i c. append_assoc (waiting L r c) (sounds L r a t c) (one t c) i

      long_next : (c : ℕ) → c < 12 → length (met_by (suc t) c) ≡ count_on r.setup (r.pending.count + suc t) c
      long_next c l =
          ap (λ (x : Channels). length (x c)) (sym grows) ∙ length-append (met_by t c) (one t c)
          ∙ count_sum r.setup (r.pending.count + t) 1 c (i.long c l) (length_sounding r.setup (λ c. sound_at L r a c t ∷ []) 1 c refl)
          ∙ ap (λ (n : ℕ). count_on r.setup n c) (let e : r.pending.count + t + 1 ≡ r.pending.count + suc t = omega arith in e)

      -- whole blocks of each channel that is there; of another there is nothing
      enough : Enough (met_by t) (one t) (64 * blocks t)
      enough c l = elim (all_or_none r.setup (r.pending.count + t) c (i.long c l)) [
        | inl e ↦ inl (omega arith)
        | inr e ↦ inr (length_sounding r.setup (λ c. sound_at L r a c t ∷ []) 1 c refl ∙ ap (λ (b : Bool). cond b 1 0) e.0)
      ]

      -- the blocks before it stay as they were
      gain_stays : (s t).limiter.gain ≡ gain_before a.rate r.limiter.gain (met_by (suc t)) (blocks t)
      gain_stays = i.gain ∙ gain_behind (met_by t) (one t) a.rate r.limiter.gain (blocks t) enough
          ∙ ap (λ (x : Channels). gain_before a.rate r.limiter.gain x (blocks t)) grows

      given_stays : Same (framed L f t 0 start).given (limited_blocks a.rate r.limiter.gain (met_by (suc t)) (blocks t))
      given_stays c l =
          i.given c l ∙ blocks_behind (met_by t) (one t) a.rate r.limiter.gain (blocks t) enough c l
          ∙ ap (λ (x : Channels). limited_blocks a.rate r.limiter.gain x (blocks t) c) grows

      meters_stay : (framed L f t 0 start).meters ≡ blocks_metered a.rate r.limiter.gain (met_by (suc t)) (blocks t)
      meters_stay =
          i.meters
          ∙ metered_behind (met_by t) (one t) a.rate r.limiter.gain (blocks t) enough
          ∙ ap (λ (x : Channels). blocks_metered a.rate r.limiter.gain x (blocks t)) grows

      -- the samples from the last whole block on
      open_block : Same (λ c. take (p + 1) (block c)) (λ c. drop (64 * blocks t) (met_by (suc t) c))
      open_block c l =
          filled t c h l
          ∙ ap (λ (xs : List Float). xs ++ one t c) (i.waits c l)
          ∙ sym (drop_behind (met_by t c) (one t c) (64 * blocks t) (enough c l)) ∙ ap (λ (x : Channels). drop (64 * blocks t) (x c)) grows

      -- by whether the block is whole
      gain_by : (b : Bool) → leb 64 (p + 1) ≡ b → (s (suc t)).limiter.gain ≡ cond b (gain_after 64 (s t).rate (s t).limiter.gain block) (s t).limiter.gain
      gain_by b e =
          ap (λ (x : State L). x.limiter.gain) (next_is L r a t h) ∙ ap (λ (b : Bool). cond b (gain_after 64 (s t).rate (s t).limiter.gain block) (s t).limiter.gain) e

      given_by : (b : Bool) → leb 64 (p + 1) ≡ b → (c : ℕ) → (framed L f (suc t) 0 start).given c
          ≡ (framed L f t 0 start).given c ++ cond b (limited (s t).limiter.gain block) none c
      given_by b e c = given_is L r a t c h ∙ ap (λ (b : Bool). (framed L f t 0 start).given c ++ cond b (limited (s t).limiter.gain block) none c) e

      meters_by : (b : Bool) → leb 64 (p + 1) ≡ b → (framed L f (suc t) 0 start).meters ≡ (framed L f t 0 start).meters ++ cond b (metered (s t).limiter.gain block) []
      meters_by b e = meters_are L r a t h ∙ ap (λ (b : Bool). (framed L f t 0 start).meters ++ cond b (metered (s t).limiter.gain block) []) e

      waiting_by : (b : Bool) → leb 64 (p + 1) ≡ b → (c : ℕ) → waiting L (s (suc t)) c ≡ take (cond b 0 (p + 1)) (block c)
      waiting_by b e c = ap (λ (x : State L). waiting L x c) (next_is L r a t h) ∙ ap (λ (b : Bool). take (cond b 0 (p + 1)) (block c)) e

      pending_by : (b : Bool) → leb 64 (p + 1) ≡ b → (s (suc t)).pending.count ≡ cond b 0 (p + 1)
      pending_by b e = ap (λ (x : State L). x.pending.count) (next_is L r a t h) ∙ ap (λ (b : Bool). cond b 0 (p + 1)) e

      rate_next : (s (suc t)).rate ≡ a.rate
      rate_next = ap (λ (x : State L). x.rate) (next_is L r a t h) ∙ i.rate

      position_next : (s (suc t)).clock.position ≡ r.clock.position + suc t
      position_next = let e = i.position in ap (λ (x : State L). x.clock.position) (next_is L r a t h) ∙ omega arith

      stays_open : leb 64 (p + 1) ≡ false → Line (suc t)
      stays_open e =
          let q = leb-false 64 (p + 1) e in
          let w = i.pending in
          let same : blocks t ≡ blocks (suc t) = omega arith in
          record {
            rate = rate_next;
            position = position_next;
            pending = pending_by false e ∙ (omega arith);
            long = long_next;
            gain = gain_by false e ∙ gain_stays ∙ ap (gain_before a.rate r.limiter.gain (met_by (suc t))) same;
            given = λ c l. given_by false e c ∙ append-nil ((framed L f t 0 start).given c) ∙ given_stays c l
                ∙ ap (λ (k : ℕ). limited_blocks a.rate r.limiter.gain (met_by (suc t)) k c) same;
            meters = meters_by false e ∙ append-nil (framed L f t 0 start).meters ∙ meters_stay ∙ ap (blocks_metered a.rate r.limiter.gain (met_by (suc t))) same;
            waits = λ c l. waiting_by false e c ∙ open_block c l ∙ ap (λ (k : ℕ). drop (64 * k) (met_by (suc t) c)) same;
          }

      -- the block is whole
      is_block : p ≡ 63 → Same block (nth_block (met_by (suc t)) (blocks t))
      is_block e c l =
          let n = length_sounding (s t).setup (floats (more L r a t).next.pending.places) 64 c
          (length_map (of_bits binary32) ((more L r a t).next.pending.places c) ∙ long_more t c h l) in
          let m = count_most (s t).setup 64 c in
          sym (take_all 64 (block c) (omega arith))
          ∙ sym (take-take 64 (p + 1) (block c) (omega arith)) ∙ ap (take 64) (open_block c l)

      becomes_whole : leb 64 (p + 1) ≡ true → Line (suc t)
      becomes_whole e =
          let q = leb-true 64 (p + 1) e in
          let w = i.pending in
          let v : p ≡ 63 = omega (arith, few) in
          let one_more : suc (blocks t) ≡ blocks (suc t) = omega arith in
          record {
            rate = rate_next;
            position = position_next;
            pending = pending_by true e ∙ (omega arith);
            long = long_next;
            gain = gain_by true e ∙ same_gain 64 i.rate gain_stays (is_block v) ∙ ap (gain_before a.rate r.limiter.gain (met_by (suc t))) one_more;
            given = λ c l.
                given_by true e c
                ∙ ap₂ (λ (u v : List Float). u ++ v) (given_stays c l) (same_limited gain_stays (is_block v) c l)
                ∙ ap (λ (k : ℕ). limited_blocks a.rate r.limiter.gain (met_by (suc t)) k c) one_more;
            meters =
                meters_by true e
                ∙ ap₂ (λ (u v : List Meters). u ++ v) meters_stay (same_metered gain_stays (is_block v))
                ∙ ap (blocks_metered a.rate r.limiter.gain (met_by (suc t))) one_more;
            waits = λ c l. let z = long_next c l in let m = count_most r.setup (r.pending.count + suc t) c in
                waiting_by true e c ∙ sym (drop_of_length-le (met_by (suc t) c) {i = 64 * blocks (suc t)} (omega arith));
          }

    -- before the first sample
    line_start : Line 0
    line_start =
        let few = good.steady.few in
        let none_yet : blocks 0 ≡ 0 = omega arith in
        record {
          rate = at_rate;
          position = omega arith;
          pending = omega arith;
          long = λ c l. ap length (append-nil (waiting L r c)) ∙ length_waiting L B F r c (le_of_lt few) (long_at 0 c zero-le l)
              ∙ ap (λ (n : ℕ). count_on r.setup n c) (let e : r.pending.count ≡ r.pending.count + 0 = omega arith in e);
          gain = ap (gain_before a.rate r.limiter.gain (met_by 0)) (sym none_yet);
          given = λ c l. ap (λ (k : ℕ). limited_blocks a.rate r.limiter.gain (met_by 0) k c) (sym none_yet);
          meters = ap (blocks_metered a.rate r.limiter.gain (met_by 0)) (sym none_yet);
          waits = λ c l. sym (append-nil (waiting L r c)) ∙ ap (λ (k : ℕ). drop (64 * k) (met_by 0 c)) (sym none_yet);
        }

    line_on : (t : ℕ) → t < a.samples → Line t → Line (suc t)
    line_on t h i = go (leb 64 ((s t).pending.count + 1)) refl
      where
        go : (b : Bool) → leb 64 ((s t).pending.count + 1) ≡ b → Line (suc t)
        go true e = becomes_whole t h i e
        go false e = stays_open t h i e

    pub line : (t : ℕ) → t ≤ a.samples → Line t
    line zero h = line_start
    line (suc t) h = line_on t h (line t (le_of_lt h))

    -- ---- sample t, and what the filter remembers of it
    module _ (t : ℕ) (h : t < a.samples) where
      pub sounds_at : (c : ℕ) → c < 12 → T (present r.setup.layout c)
          → get_or ((s (suc t)).pending.places c) ((r.pending.count + t) % 64) 0 ≡ to_bits binary32 (sound_at L r a c t)
      sounds_at c l here =
          let i = line t (le_of_lt h) in
          let few = (good_at t (le_of_lt h)).steady.few in
          let e = long_at t c (le_of_lt h) l in
          ap₂ (λ (x : State L) (p : ℕ). get_or (x.pending.places c) p 0) (next_is L r a t h) (sym i.pending)
          ∙ ap (λ (ws : List ℕ). get_or ws (s t).pending.count 0) (places_are L r a t c (T_true (present r.setup.layout c) here))
          ∙ get_or-set_same ((s t).pending.places c) (s t).pending.count (to_bits binary32 (sound_at L r a c t)) 0 (omega arith)

      pub enters_at : (s (suc t)).filter ≡ next (s t).filter (fed (moment_at L r a t))
      enters_at = ap (λ (x : State L). x.filter) (next_is L r a t h)
