-- Rows written behind the pending samples: read as words, each channel's 64 places are `laid`, as the rules have it. Assumes nothing.
use mathlib.Core.Path.{◌≡◌, refl, sym, ap, ap₂, ◌∙◌, subst}
use mathlib.Core.Bool.{Bool, true, false, cond}
use mathlib.Core.List.{List, [], ◌∷◌}
use Prim.Native.Nat.{ℕ, zero, suc, ◌+◌, ◌*◌, ◌^◌, ◌<◌, ◌≤◌, zero-le, suc-le-suc}
use native.Mathlib.Omega.{arith}
use native.Mathlib.Nat.{not-suc-le-zero}
use lib.Dec.{T}
use lib.ListN.{length, get_or, set, take, drop, get_or-eq_default}
use lib.Seq.{drop-drop}
use lib.Ieee.{Float, binary32, fits, to_bits}
use lib.Ieee.Bits.{to_bits-lt}
use Rattle.ieee.specs.Bounds.{All}
use Rattle.words.specs.Words.{with_word, words_at, with_float}
use Rattle.words.proofs.Back.{reads_back}
use Rattle.words.proofs.Beside.{Kept, kept_twice, number_keeps, reads_before, words_before, words_past}
use Rattle.words.proofs.Numbers.{length_kept}
use Rattle.limiter.specs.ChannelPlaces.{channels, with_floats, with_channels}
use Rattle.rules.specs.Parts.{laid}

-- ---- f32 values

abbrev pub Fit : List Float → Type 0
Fit xs = All (λ (x : Float). T (fits binary32 x)) xs

fit_take : (k : ℕ) (xs : List Float) → Fit xs → Fit (take k xs)
fit_take zero xs h = tt
fit_take (suc k) [] h = tt
fit_take (suc k) (x ∷ xs) h = (h.0, fit_take k xs h.1)

fit_drop : (k : ℕ) (xs : List Float) → Fit xs → Fit (drop k xs)
fit_drop zero xs h = h
fit_drop (suc k) [] h = tt
fit_drop (suc k) (x ∷ xs) h = fit_drop k xs h.1

take_short : {A : Type 0} (k : ℕ) (xs : List A) → length (take k xs) ≤ k
take_short zero xs = zero-le
take_short (suc k) [] = zero-le
take_short (suc k) (x ∷ xs) = suc-le-suc (take_short k xs)

-- ---- one word, and a run of floats

word_set : (n j base v : ℕ) (s : List ℕ) → v < 256 ^ 4 → base + 4 * n ≤ length s → j < n → words_at (with_word s (base + 4 * j) v) base n ≡ set (words_at s base n) j v
word_set zero j base v s b h l = absurd (not-suc-le-zero l)
word_set (suc n) zero base v s b h l =
    let e : base + 4 * 0 ≡ base = omega arith in
    subst (λ (x : ℕ). words_at (with_word s x v) base (suc n) ≡ v ∷ words_at s (base + 4) n) (sym e)
    (ap₂ (λ (x : ℕ) (ws : List ℕ). x ∷ ws) (reads_back s base 4 v (omega arith) b) (words_past (number_keeps s base 4 v) (base + 4) n (omega arith)))
word_set (suc n) (suc j) base v s b h l =
    let e : base + 4 * suc j ≡ base + 4 + 4 * j = omega arith in
    subst (λ (x : ℕ). words_at (with_word s x v) base (suc n) ≡ set (words_at s base (suc n)) (suc j) v) (sym e)
    (ap₂ (λ (x : ℕ) (ws : List ℕ). x ∷ ws) (reads_before (number_keeps s (base + 4 + 4 * j) 4 v) base 4 (omega arith)) (word_set n j (base + 4) v s b (omega arith) (omega arith)))

length_float : (s : List ℕ) (at : ℕ) (x : Float) → length (with_float s at x) ≡ length s
unfolding with_float
length_float s at x = length_kept s at 4 (to_bits binary32 x)

length_floats : (xs : List Float) (at : ℕ) (s : List ℕ) → length (with_floats s at xs) ≡ length s
length_floats [] at s = refl
length_floats (x ∷ xs) at s = length_floats xs (at + 4) (with_float s at x) ∙ length_float s at x

float_keeps : (s : List ℕ) (at : ℕ) (x : Float) → Kept s (with_float s at x) at (at + 4)
unfolding with_float
float_keeps s at x = number_keeps s at 4 (to_bits binary32 x)

floats_keep : (xs : List Float) (at : ℕ) (s : List ℕ) → Kept s (with_floats s at xs) at (at + 4 * length xs)
floats_keep [] at s = record { before = λ k h. refl; past = λ k h. refl }
floats_keep (x ∷ xs) at s =
    kept_twice at (at + 4 * suc (length xs)) (float_keeps s at x) (floats_keep xs (at + 4) (with_float s at x)) (omega arith) (omega arith) (omega arith) (omega arith)

float_set : (n j base : ℕ) (x : Float) (s : List ℕ) → T (fits binary32 x) → base + 4 * n ≤ length s → j < n
    → words_at (with_float s (base + 4 * j) x) base n ≡ set (words_at s base n) j (to_bits binary32 x)
unfolding with_float
float_set n j base x s f h l = word_set n j base (to_bits binary32 x) s (to_bits-lt binary32 x f) h l

floats_laid : (xs : List Float) (n j base : ℕ) (s : List ℕ) → Fit xs → base + 4 * n ≤ length s → j + length xs ≤ n
    → words_at (with_floats s (base + 4 * j) xs) base n ≡ laid j xs (words_at s base n)
floats_laid [] n j base s f h l = refl
floats_laid (x ∷ xs) n j base s f h l =
    let e : base + 4 * j + 4 ≡ base + 4 * suc j = omega arith in
    let w = length_float s (base + 4 * j) x in
    rw e
    (floats_laid xs n (suc j) base (with_float s (base + 4 * j) x) f.1 (omega arith) (omega arith)
    ∙ ap (laid (suc j) xs) (float_set n j base x s f.0 h (omega arith)))

-- ---- channels

-- before the first of them nothing changes
earlier : (cs : List (List Float)) (to : ℕ) (s : List ℕ) (i : ℕ) → i < to → get_or (with_channels cs 256 to s) i 0 ≡ get_or s i 0
unfolding with_channels
earlier [] to s i h = refl
earlier (c ∷ cs) to s i h = earlier cs (to + 256) (with_floats s to c) i (omega arith) ∙ (floats_keep c to s).before i h

pub length_channels : (cs : List (List Float)) (to : ℕ) (s : List ℕ) → length (with_channels cs 256 to s) ≡ length s
unfolding with_channels
length_channels [] to s = refl
length_channels (c ∷ cs) to s = length_channels cs (to + 256) (with_floats s to c) ∙ length_floats c to s

channels_keep : (cs : List (List Float)) (to : ℕ) (s : List ℕ) → Kept s (with_channels cs 256 to s) to (length s)
channels_keep cs to s =
    let e = length_channels cs to s in
    record {
      before = earlier cs to s;
      past = λ i h. get_or-eq_default (with_channels cs 256 to s) 0 (omega arith) ∙ sym (get_or-eq_default s 0 h);
    }

-- channel c behind its pending samples: none of it where it is not there
module _ (k pending : ℕ) (short : pending + k ≤ 64) where
  row_fit : (h : Bool) (xs : List Float) → Fit xs → Fit (cond h (take k xs) [])
  row_fit true xs f = fit_take k xs f
  row_fit false xs f = tt

  row_short : (h : Bool) (xs : List Float) → pending + length (cond h (take k xs) []) ≤ 64
  row_short true xs = let t = take_short k xs in omega arith
  row_short false xs = omega arith

  channel_laid : (here : List Bool) (base : ℕ) (xs : List Float) (s : List ℕ) → Fit xs → base + 256 * length here ≤ length s → (c : ℕ) → c < length here
      → words_at (with_channels (channels here k xs) 256 (base + 4 * pending) s) (base + 256 * c) 64
      ≡ laid pending (cond (get_or here c false) (take k (drop (64 * c) xs)) []) (words_at s (base + 256 * c) 64)
  unfolding channels with_channels
  channel_laid [] base xs s f h c l = absurd (not-suc-le-zero l)
  channel_laid (b ∷ here) base xs s f h zero l =
      let ys = cond b (take k xs) [] in
      let new = with_floats s (base + 4 * pending) ys in
      let d : pending + length ys ≤ 64 = row_short b xs in
      let e : base + 256 * 0 ≡ base = omega arith in
      ap (λ (u : ℕ). words_at (with_channels (channels here k (drop 64 xs)) 256 (base + 4 * pending + 256) new) u 64) e
      ∙ words_before (channels_keep (channels here k (drop 64 xs)) (base + 4 * pending + 256) new) base 64 (omega arith)
      ∙ floats_laid ys 64 pending base s (row_fit b xs f) (omega arith) d
      ∙ ap (λ (u : ℕ). laid pending ys (words_at s u 64)) (sym e)
  channel_laid (b ∷ here) base xs s f h (suc c) l =
      let ys = cond b (take k xs) [] in
      let new = with_floats s (base + 4 * pending) ys in
      let cs = channels here k (drop 64 xs) in
      let d : pending + length ys ≤ 64 = row_short b xs in
      let w : length new ≡ length s = length_floats ys (base + 4 * pending) s in
      let e : base + 4 * pending + 256 ≡ base + 256 + 4 * pending = omega arith in
      let g : base + 256 * suc c ≡ base + 256 + 256 * c = omega arith in
      let o : 64 + 64 * c ≡ 64 * suc c = omega arith in
      ap₂ (λ (u v : ℕ). words_at (with_channels cs 256 u new) v 64) e g
      ∙ channel_laid here (base + 256) (drop 64 xs) new (fit_drop 64 xs f) (omega arith) c (omega arith)
      ∙ ap₂ (λ (zs : List Float) (ws : List ℕ). laid pending (cond (get_or here c false) (take k zs) []) ws) (drop-drop (64 * c) 64 xs)
      (words_past (floats_keep ys (base + 4 * pending) s) (base + 256 + 256 * c) 64 (omega arith))
      ∙ ap₂ (λ (u v : ℕ). laid pending (cond (get_or here c false) (take k (drop u xs)) []) (words_at s v 64)) o (sym g)

  -- what `append_rows` leaves, read channel by channel
  pub append_laid : (here : List Bool) → length here ≡ 12 → (rows : List Float) (s : List ℕ) → Fit rows → length s ≡ 3072 → (c : ℕ) → c < 12
      → words_at (with_channels (channels here k rows) 256 (4 * pending) s) (256 * c) 64
      ≡ laid pending (cond (get_or here c false) (take k (drop (64 * c) rows)) []) (words_at s (256 * c) 64)
  append_laid here e rows s f h c l =
      let p : 0 + 4 * pending ≡ 4 * pending = omega arith in
      let q : 0 + 256 * c ≡ 256 * c = omega arith in
      rw (p, q) at (channel_laid here 0 rows s f (omega arith) c (omega arith))
