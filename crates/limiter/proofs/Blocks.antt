-- The block in memory, channel after channel: one channel more, for the loops over it. Assumes nothing.
use mathlib.Core.Path.{◌≡◌, refl, sym, ap, ap₂, ◌∙◌, subst}
use mathlib.Core.Bool.{Bool, true, false, cond}
use mathlib.Core.List.{List, [], ◌∷◌, ◌++◌, append_assoc}
use Prim.Native.Nat.{ℕ, zero, suc, ◌+◌, ◌-◌, ◌*◌, ◌≤◌, ◌<◌, zero-le}
use native.Mathlib.Nat.{le_refl, le_trans, le_of_eq, le_of_lt, le_antisymm, le_of_suc-le-suc, not-suc-le-zero, mul-le-mul_right}
use native.Mathlib.Numerals.{add-one}
use native.Mathlib.Omega.{arith}
use borrow.Rule.Slice.PartMut.{put_mid, same_len_mid}
use lib.ListN.{length, length-append, get_or, take, drop, length-drop, take-append-drop, drop_of_length-le}
use lib.Seq.{drop-cons, drop-drop, take-append-add, drop-append-add, length-take-le, take_at, drop_at}
use lib.Ieee.{Float}
use Rattle.ieee.specs.Small.{absolute, larger}
use Rattle.limiter.specs.Limiter.{0·0, peak, scaled, block_peak, scaled_block}
use Rattle.limiter.proofs.Levels.{Level, rank, level_unique, level_abs, raised}
use Rattle.limiter.proofs.Peaks.{zero_level, zero_under}
use Rattle.limiter.specs.ChannelPlaces.{floats_at, with_floats, channels, overlaid, channels_at, with_channels}
use Rattle.words.proofs.Runs.{length_floats}
use Rattle.words.proofs.Part.{floats_back}
use Rattle.limiter.proofs.Scaled.{length_scaled}

whole : (a n : ℕ) → a + n - a ≡ n
whole a n = omega arith

-- the part that is lent
pub part_length : {A : Type 0} (n at : ℕ) (xs : List A) → at + n ≤ length xs → length (take (at + n - at) (drop at xs)) ≡ n
part_length n at xs h = ap (λ (j : ℕ). length (take j (drop at xs))) (whole at n) ∙ length-take-le n (drop at xs) (omega (arith, length-drop at xs))

channels_at_next : (s : List ℕ) (here : List Bool) (c n at : ℕ) → c < length here
    → channels_at (drop c here) n s (4 * at) ≡ cond (get_or here c false) (floats_at s (4 * at) n) [] ∷ channels_at (drop (c + 1) here) n s (4 * (at + 64))
unfolding channels_at
channels_at_next s here c n at h =
    let f = cond (get_or here c false) (floats_at s (4 * at) n) [] in
    ap (λ (l : List Bool). channels_at l n s (4 * at)) (drop-cons here c false h)
    ∙ ap₂ (λ (j i : ℕ). f ∷ channels_at (drop j here) n s i) (sym (add-one c)) (on at)
  where
    on : (at : ℕ) → 4 * at + 256 ≡ 4 * (at + 64)
    on at = omega arith

laid_cons : (z : List Float) (cs : List (List Float)) (t : List Float) → overlaid (z ∷ cs) t ≡ z ++ (take (64 - length z) (drop (length z) t) ++ overlaid cs (drop 64 t))
unfolding overlaid
laid_cons z cs t = refl

-- ---- one channel more
pub length_channels : (here : List Bool) (n : ℕ) (xs : List Float) → length (channels here n xs) ≡ length here
unfolding channels
length_channels [] n xs = refl
length_channels (h ∷ here) n xs = ap suc (length_channels here n (drop 64 xs))

-- channel c of the block, which is empty where it is not there
abbrev pub channel : List Bool → ℕ → ℕ → List Float → List Float
channel here c n xs = cond (get_or here c false) (take n (drop (64 * c) xs)) []

pub channels_more : (here : List Bool) (c n : ℕ) (xs : List Float) → c < length here
    → channels (take (c + 1) here) n xs ≡ channels (take c here) n xs ++ (channel here c n xs ∷ [])
unfolding channels
channels_more [] c n xs l = absurd (not-suc-le-zero l)
channels_more (h ∷ here) zero n xs l = refl
channels_more (h ∷ here) (suc c) n xs l =
    ap (λ (j : ℕ). channels (take j (h ∷ here)) n xs) (add-one (suc c))
    ∙ ap (λ (cs : List (List Float)). cond h (take n xs) [] ∷ cs)
    (ap (λ (j : ℕ). channels (take j here) n (drop 64 xs)) (sym (add-one c)) ∙ channels_more here c n (drop 64 xs) (le_of_suc-le-suc l))
    ∙ ap (λ (ys : List Float). cond h (take n xs) [] ∷ (channels (take c here) n (drop 64 xs) ++ (cond (get_or here c false) (take n ys) [] ∷ [])))
    (drop-drop (64 * c) 64 xs ∙ ap (λ (j : ℕ). drop j xs) (on c))
  where
    on : (c : ℕ) → 64 + 64 * c ≡ 64 * suc c
    on c = omega arith

-- ---- the peak
peak_more : (m : Float) (cs : List (List Float)) (c : List Float) → block_peak m (cs ++ (c ∷ [])) ≡ larger (block_peak m cs) (peak c)
unfolding block_peak
peak_more m [] c = refl
peak_more m (d ∷ cs) c = peak_more (larger m (peak d)) cs c

larger_zero : (m : Float) → Level m → larger m 0·0 ≡ m
larger_zero m p =
    let r = raised m 0·0 p zero_level.fit in
    ap (larger m) (sym (level_abs 0·0 zero_level))
    ∙ level_unique (larger m (absolute 0·0)) m r.level p (le_antisymm (r.least (rank m) (le_refl (rank m)) (zero_under (rank m))) r.first)

module _ (here : List Bool) (c n : ℕ) (xs : List Float) {m : Float} (d : m ≡ block_peak 0·0 (channels (take c here) n xs)) (h : c < length here) where
  pub peak_next : {p r : Float} → get_or here c false ≡ true → Level p → p ≡ peak (take (64 * c + n - 64 * c) (drop (64 * c) xs))
      → r ≡ larger m (absolute p) → r ≡ block_peak 0·0 (channels (take (c + 1) here) n xs)
  peak_next {p} t l e f =
      f ∙ ap (larger m) (level_abs p l ∙ e ∙ ap (λ (j : ℕ). peak (take j (drop (64 * c) xs))) (whole (64 * c) n))
      ∙ ap (λ (v : Float). larger v (peak (take n (drop (64 * c) xs)))) d
      ∙ ap (λ (b : Bool). larger (block_peak 0·0 (channels (take c here) n xs)) (peak (cond b (take n (drop (64 * c) xs)) []))) (sym t)
      ∙ sym (peak_more 0·0 (channels (take c here) n xs) (channel here c n xs))
      ∙ sym (ap (block_peak 0·0) (channels_more here c n xs h))

  -- a channel that is not there raises no peak
  pub peak_skip : get_or here c false ≡ false → Level m → m ≡ block_peak 0·0 (channels (take (c + 1) here) n xs)
  peak_skip t l =
      sym (larger_zero m l)
      ∙ ap (λ (v : Float). larger v 0·0) d
      ∙ ap (λ (b : Bool). larger (block_peak 0·0 (channels (take c here) n xs)) (peak (cond b (take n (drop (64 * c) xs)) []))) (sym t)
      ∙ sym (peak_more 0·0 (channels (take c here) n xs) (channel here c n xs))
      ∙ sym (ap (block_peak 0·0) (channels_more here c n xs h))

-- no channel is left
pub peak_end : (here : List Bool) (n : ℕ) (xs : List Float) (m : Float) → length here ≤ 0 → m ≡ block_peak m (channels here n xs)
unfolding block_peak channels
peak_end [] n xs m h = refl
peak_end (b ∷ here) n xs m h = absurd (not-suc-le-zero h)

-- ---- z in the place of the first n of the 64 from the end of p on
module _ (p z t : List Float) (n : ℕ) (e : length z ≡ n) (h : n ≤ 64) where
  split : 64 ≡ length z + (64 - n)
  split = omega arith

  taken : take (length p + 64) (p ++ (z ++ drop n t)) ≡ p ++ (z ++ take (64 - n) (drop n t))
  taken = take-append-add p (z ++ drop n t) 64 ∙ ap (λ (l : List Float). p ++ l) (ap (λ (j : ℕ). take j (z ++ drop n t)) split ∙ take-append-add z (drop n t) (64 - n))

  dropped : drop (length p + 64) (p ++ (z ++ drop n t)) ≡ drop 64 t
  dropped = drop-append-add p (z ++ drop n t) 64 ∙ ap (λ (j : ℕ). drop j (z ++ drop n t)) split ∙ drop-append-add z (drop n t) (64 - n) ∙ drop-drop (64 - n) n t
      ∙ ap (λ (j : ℕ). drop j t) (back n h)
    where
      back : (n : ℕ) → n ≤ 64 → n + (64 - n) ≡ 64
      back n h = omega arith

  laid_one : (cs : List (List Float)) → let ys = p ++ (z ++ drop n t) in take (length p + 64) ys ++ overlaid cs (drop (length p + 64) ys) ≡ p ++ overlaid (z ∷ cs) t
  laid_one cs =
      ap (λ (l : List Float). take (length p + 64) (p ++ (z ++ drop n t)) ++ overlaid cs l) dropped
      ∙ ap (λ (l : List Float). l ++ overlaid cs (drop 64 t)) taken
      ∙ append_assoc p (z ++ take (64 - n) (drop n t)) (overlaid cs (drop 64 t))
      ∙ ap (λ (l : List Float). p ++ l) (append_assoc z (take (64 - n) (drop n t)) (overlaid cs (drop 64 t)))
      ∙ ap (λ (j : ℕ). p ++ (z ++ (take (64 - j) (drop j t) ++ overlaid cs (drop 64 t)))) (sym e)
      ∙ sym (ap (λ (l : List Float). p ++ l) (laid_cons z cs t))

-- the channel of n samples at `at`, written by a loop
module _ (n at : ℕ) (xs z : List Float) (e : length z ≡ n) (h : n ≤ 64) (f : at + 64 ≤ length xs) where
  front : length (take at xs) ≡ at
  front = length-take-le at xs (omega arith)

  written : put_mid at (at + n - at) xs z ≡ take at xs ++ (z ++ drop n (drop at xs))
  written = ap (λ (j : ℕ). take at xs ++ (z ++ drop j (drop at xs))) (whole at n)

  pub row_laid : (cs : List (List Float)) → let ys = put_mid at (at + n - at) xs z in
      take (at + 64) ys ++ overlaid cs (drop (at + 64) ys) ≡ take at xs ++ overlaid (z ∷ cs) (drop at xs)
  row_laid cs =
      ap (λ (ys : List Float). take (at + 64) ys ++ overlaid cs (drop (at + 64) ys)) written
      ∙ subst (λ (b : ℕ). let ys = take at xs ++ (z ++ drop n (drop at xs)) in
      take (b + 64) ys ++ overlaid cs (drop (b + 64) ys) ≡ take at xs ++ overlaid (z ∷ cs) (drop at xs)) front (laid_one (take at xs) z (drop at xs) n e h cs)

  pub row_length : length (put_mid at (at + n - at) xs z) ≡ length xs
  row_length = same_len_mid at (at + n - at) xs z
      (e ∙ sym (ap (λ (j : ℕ). length (take j (drop at xs))) (whole at n) ∙ length-take-le n (drop at xs) (omega (arith, length-drop at xs))))

-- ---- from bytes
module _ (s : List ℕ) (here : List Bool) (c n at : ℕ) (xs : List Float) (h : c < length here) (f : at + 64 ≤ length xs) where
  pub load_next : (z : List Float) → get_or here c false ≡ true → n ≤ 64 → z ≡ floats_at s (4 * at) n → let ys = put_mid at (at + n - at) xs z in
      (length ys ≡ length xs)
      × (take (at + 64) ys ++ overlaid (channels_at (drop (c + 1) here) n s (4 * (at + 64))) (drop (at + 64) ys)
      ≡ take at xs ++ overlaid (channels_at (drop c here) n s (4 * at)) (drop at xs))
  load_next z t i e =
      let l : length z ≡ n = ap length e ∙ length_floats s (4 * at) n in
      let cs = channels_at (drop (c + 1) here) n s (4 * (at + 64)) in (
        row_length n at xs z l i f,
        row_laid n at xs z l i f cs
            ∙ ap (λ (u : List Float). take at xs ++ overlaid (u ∷ cs) (drop at xs)) (e ∙ ap (λ (b : Bool). cond b (floats_at s (4 * at) n) []) (sym t))
            ∙ sym (ap (λ (ds : List (List Float)). take at xs ++ overlaid ds (drop at xs)) (channels_at_next s here c n at h)),
      )

  -- the row of a channel that is not there stays
  pub load_skip : get_or here c false ≡ false → take (at + 64) xs ++ overlaid (channels_at (drop (c + 1) here) n s (4 * (at + 64))) (drop (at + 64) xs)
      ≡ take at xs ++ overlaid (channels_at (drop c here) n s (4 * at)) (drop at xs)
  load_skip t =
      let cs = channels_at (drop (c + 1) here) n s (4 * (at + 64)) in
      ap (λ (ys : List Float). take (at + 64) ys ++ overlaid cs (drop (at + 64) ys)) (sym (take-append-drop at xs) ∙ sym (written 0 at xs [] refl zero-le f))
      ∙ row_laid 0 at xs [] refl zero-le f cs
      ∙ ap (λ (b : Bool). take at xs ++ overlaid (cond b (floats_at s (4 * at) n) [] ∷ cs) (drop at xs)) (sym t)
      ∙ sym (ap (λ (ds : List (List Float)). take at xs ++ overlaid ds (drop at xs)) (channels_at_next s here c n at h))

pub load_end : (s : List ℕ) (here : List Bool) (c n at : ℕ) (xs : List Float) → length here ≤ c → xs ≡ take at xs ++ overlaid (channels_at (drop c here) n s (4 * at)) (drop at xs)
unfolding overlaid channels_at
load_end s here c n at xs h =
    sym (ap (λ (l : List Bool). take at xs ++ overlaid (channels_at l n s (4 * at)) (drop at xs)) (drop_of_length-le here h) ∙ take-append-drop at xs)

-- ---- to bytes
pub store_part : (g : Float) (n at from : ℕ) (xs : List Float) (s z : List ℕ) → at + n ≤ length xs → from + 4 * n ≤ length s
    → z ≡ with_floats (take (from + 4 * n - from) (drop from s)) 0 (scaled g (take (at + n - at) (drop at xs)))
    → put_mid from (from + 4 * n - from) s z ≡ with_floats s from (scaled g (take (at + n - at) (drop at xs)))
store_part g n at from xs s z h l e =
    let ys = scaled g (take (at + n - at) (drop at xs)) in
    let m : length ys ≡ n = length_scaled g (take (at + n - at) (drop at xs)) ∙ part_length n at xs h in
    let w = whole from (4 * n) in
    ap (λ (k : ℕ). put_mid from k s z) w ∙ floats_back s z from (4 * n) ys l (omega arith) (e ∙ ap (λ (k : ℕ). with_floats (take k (drop from s)) 0 ys) w)

scaled_more : (g : Float) (cs : List (List Float)) (c : List Float) → scaled_block g (cs ++ (c ∷ [])) ≡ scaled_block g cs ++ (scaled g c ∷ [])
unfolding scaled_block
scaled_more g [] c = refl
scaled_more g (d ∷ cs) c = ap (λ (ds : List (List Float)). scaled g d ∷ ds) (scaled_more g cs c)

length_scaled_block : (g : Float) (cs : List (List Float)) → length (scaled_block g cs) ≡ length cs
unfolding scaled_block
length_scaled_block g [] = refl
length_scaled_block g (c ∷ cs) = ap suc (length_scaled_block g cs)

pub written_more : (cs : List (List Float)) (c : List Float) (step to : ℕ) (s : List ℕ)
    → with_channels (cs ++ (c ∷ [])) step to s ≡ with_floats (with_channels cs step to s) (step * length cs + to) c
unfolding with_channels
written_more [] c step to s = ap (λ (j : ℕ). with_floats s j c) (on step to)
  where
    on : (step to : ℕ) → to ≡ step * 0 + to
    on step to = omega arith
written_more (d ∷ cs) c step to s =
    written_more cs c step (to + step) (with_floats s to d)
    ∙ ap (λ (j : ℕ). with_floats (with_channels cs step (to + step) (with_floats s to d)) j c) (on step (length cs) to)
  where
    on : (step n to : ℕ) → step * n + (to + step) ≡ step * suc n + to
    on step n to = omega arith

module _ (g : Float) (here : List Bool) (c n step to : ℕ) (xs : List Float) (s : List ℕ) (h : c < length here) where
  store_more : with_channels (scaled_block g (channels (take (c + 1) here) n xs)) step to s
      ≡ with_floats (with_channels (scaled_block g (channels (take c here) n xs)) step to s) (step * c + to) (scaled g (channel here c n xs))
  store_more =
      let cs = channels (take c here) n xs in
      let ys = channel here c n xs in
      ap (λ (ds : List (List Float)). with_channels ds step to s) (ap (scaled_block g) (channels_more here c n xs h) ∙ scaled_more g cs ys)
      ∙ written_more (scaled_block g cs) (scaled g ys) step to s
      ∙ ap (λ (j : ℕ). with_floats (with_channels (scaled_block g cs) step to s) (step * j + to) (scaled g ys))
      (length_scaled_block g cs ∙ length_channels (take c here) n xs ∙ length-take-le c here (le_of_lt h))

  pub store_next : {t u : List ℕ} → t ≡ with_channels (scaled_block g (channels (take c here) n xs)) step to s → get_or here c false ≡ true
      → u ≡ with_floats t (step * c + to) (scaled g (take (64 * c + n - 64 * c) (drop (64 * c) xs)))
      → u ≡ with_channels (scaled_block g (channels (take (c + 1) here) n xs)) step to s
  store_next {t} d q e =
      e ∙ ap (λ (j : ℕ). with_floats t (step * c + to) (scaled g (take j (drop (64 * c) xs)))) (whole (64 * c) n)
      ∙ ap₂ (λ (v : List ℕ) (b : Bool). with_floats v (step * c + to) (scaled g (cond b (take n (drop (64 * c) xs)) []))) d (sym q)
      ∙ sym store_more

  -- of a channel that is not there nothing is written
  pub store_skip : {t : List ℕ} → t ≡ with_channels (scaled_block g (channels (take c here) n xs)) step to s → get_or here c false ≡ false
      → t ≡ with_channels (scaled_block g (channels (take (c + 1) here) n xs)) step to s
  store_skip {t} d q =
      ap₂ (λ (v : List ℕ) (b : Bool). with_floats v (step * c + to) (scaled g (cond b (take n (drop (64 * c) xs)) []))) d (sym q) ∙ sym store_more

-- no channel is left
pub store_end : (g : Float) (here : List Bool) (n step at : ℕ) (xs : List Float) (s : List ℕ) → length here ≤ 0
    → s ≡ with_channels (scaled_block g (channels here n xs)) step at s
unfolding with_channels scaled_block channels
store_end g [] n step at xs s h = refl
store_end g (b ∷ here) n step at xs s h = absurd (not-suc-le-zero h)

-- the room that k channels need
pub room_next : (k step : ℕ) → 0 < k → step + (k - 1) * step ≡ k * step
room_next zero step h = absurd (not-suc-le-zero h)
room_next (suc k) step h = ap (λ (j : ℕ). step + j * step) (less k) ∙ more k step
  where
    less : (k : ℕ) → suc k - 1 ≡ k
    less k = omega arith

    more : (k step : ℕ) → step + k * step ≡ suc k * step
    more k step = omega arith

-- the room that a channel needs
pub room_at : (c k step : ℕ) → c < k → step * c + step ≤ k * step
room_at c k step h = le_trans (le_of_eq (more c step)) (mul-le-mul_right step h)
  where
    more : (c step : ℕ) → step * c + step ≡ suc c * step
    more c step = omega arith

-- ---- what was laid is read back

-- behind a row that begins with c
rest_of_row : (c xs os : List Float) → length c ≤ 64 → 64 ≤ length xs → drop 64 (c ++ (take (64 - length c) (drop (length c) xs) ++ os)) ≡ os
rest_of_row c xs os h f =
    let m = take (64 - length c) (drop (length c) xs) in
    let l : length m ≡ 64 - length c = length-take-le (64 - length c) (drop (length c) xs) (omega (arith, length-drop (length c) xs)) in
    let p : length (c ++ m) ≡ 64 = length-append c m ∙ omega (arith, l) in
    ap (drop 64) (sym (append_assoc c m os)) ∙ drop_at (c ++ m) os 64 p

pub channels_back : (here : List Bool) (n : ℕ) (s : List ℕ) (at : ℕ) (xs : List Float) → n ≤ 64 → 64 * length here ≤ length xs
    → channels here n (overlaid (channels_at here n s at) xs) ≡ channels_at here n s at
unfolding channels overlaid channels_at
channels_back [] n s at xs h f = refl
channels_back (b ∷ here) n s at xs h f =
    let c = cond b (floats_at s at n) [] in
    let cs = channels_at here n s (at + 256) in
    let os = overlaid cs (drop 64 xs) in
    let m = take (64 - length c) (drop (length c) xs) in
    ap₂ (λ (t : List Float) (ds : List (List Float)). t ∷ ds) (head b (m ++ os))
    (ap (channels here n) (rest_of_row c xs os (short b) (omega arith)) ∙ channels_back here n s (at + 256) (drop 64 xs) h (omega (arith, length-drop 64 xs)))
  where
    short : (b : Bool) → length (cond b (floats_at s at n) []) ≤ 64
    short true = le_trans (le_of_eq (length_floats s at n)) h
    short false = zero-le

    head : (b : Bool) (ys : List Float) → cond b (take n (cond b (floats_at s at n) [] ++ ys)) [] ≡ cond b (floats_at s at n) []
    head true ys = take_at (floats_at s at n) ys n (length_floats s at n)
    head false ys = refl
