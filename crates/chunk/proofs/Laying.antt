-- Rows laid into the places of a state block: the small part's bytes and the infos stay, and each channel's 64 places are `laid`. Assumes nothing.
use mathlib.Core.Path.{◌≡◌, refl, sym, ap, ap₂, fun_ext, ◌∙◌}
use mathlib.Core.Bool.{Bool, true, false, cond}
use mathlib.Core.List.{List, [], ◌∷◌, ◌++◌, map}
use Prim.Native.Nat.{ℕ, zero, suc, ◌+◌, ◌*◌, ◌≤◌}
use native.Mathlib.Nat.{suc-ne-zero, suc_inj}
use native.Mathlib.Omega.{arith}
use borrow.Author.Tests.{ltb-true, ltb-false}
use borrow.Rule.Slice.PartMut.{put_mid}
use lib.Dec.{T, ltb}
use lib.ListN.{length, get_or, set, take, drop, length-set, length-drop, take-append-drop}
use lib.Seq.{length-take-le, take-append-le, drop-append-le, take_at, drop_at, drop-drop}
use lib.Ieee.{Float, nan, binary32, fits, of_bits, to_bits}
use lib.Ieee.Bits.{of_bits-to_bits}
use Rattle.words.specs.Words.{words_at}
use Rattle.limiter.specs.ChannelPlaces.{channels, with_channels}
use Rattle.rules.specs.Parts.{laid}
use Rattle.store.specs.Layout.{infos_at, places_at, size, infos_of, places_of}
use Rattle.store.proofs.Theorems.{places_row, no_places, words_drop, words_front}
use Rattle.render.proofs.Theorems.{Fit, append_laid, length_channels}
use Rattle.formats.specs.Areas.{infos_bytes, places_bytes}
use Rattle.chunk.specs.ChunkRows.{small_bytes, hall_bytes_of, Laid}

-- ---- laid

-- past the twelve channels there are no places
pub laid_nil : (k : ℕ) (xs : List Float) → laid k xs [] ≡ []
laid_nil k [] = refl
laid_nil k (x ∷ xs) = laid_nil (suc k) xs

pub length_laid : (k : ℕ) (xs : List Float) (ws : List ℕ) → length (laid k xs ws) ≡ length ws
length_laid k [] ws = refl
length_laid k (x ∷ xs) ws = length_laid (suc k) xs (set ws k (to_bits binary32 x)) ∙ length-set ws k (to_bits binary32 x)

laid_front : (k : ℕ) (xs : List Float) (w : ℕ) (ws : List ℕ) → laid (suc k) xs (w ∷ ws) ≡ w ∷ laid k xs ws
laid_front k [] w ws = refl
laid_front k (x ∷ xs) w ws = laid_front (suc k) xs w (set ws k (to_bits binary32 x))

-- f32s laid into as many places are read back
pub laid_floats : (xs : List Float) (ws : List ℕ) → Fit xs → length xs ≡ length ws → map (of_bits binary32) (laid 0 xs ws) ≡ xs
laid_floats [] [] f e = refl
laid_floats [] (w ∷ ws) f e = absurd (suc-ne-zero (length ws) (sym e))
laid_floats (x ∷ xs) [] f e = absurd (suc-ne-zero (length xs) e)
laid_floats (x ∷ xs) (w ∷ ws) f e =
    ap (map (of_bits binary32)) (laid_front 0 xs (to_bits binary32 x) ws)
    ∙ ap₂ (λ (y : Float) (ys : List Float). y ∷ ys) (of_bits-to_bits binary32 x f.0) (laid_floats xs ws f.1 (suc_inj e))

-- an f32 slice has f32 values
pub fit_all : (xs : List Float) → ((i : ℕ) → T (fits binary32 (get_or xs i nan))) → Fit xs
fit_all [] h = tt
fit_all (x ∷ xs) h = (h zero, fit_all xs (λ i. h (suc i)))

-- ---- a block that stays up to its places

infos_front : (p x : List ℕ) → length p ≡ places_at → infos_of (p ++ x) ≡ infos_of p
infos_front p x l =
    let d : infos_bytes ≤ length (drop infos_at p) = rw length-drop (omega arith) in
    ap (take infos_bytes) (drop-append-le infos_at p x (omega arith)) ∙ take-append-le infos_bytes (drop infos_at p) x d

-- words of the places, between what stands before and behind them
words_between : (p x y : List ℕ) (at n : ℕ) → length p ≡ places_at → length x ≡ places_bytes → at + 4 * n ≤ places_bytes
    → words_at (p ++ (x ++ y)) (places_at + at) n ≡ words_at x at n
words_between p x y at n l m h =
    words_drop (p ++ (x ++ y)) places_at at n
    ∙ ap (λ (s : List ℕ). words_at s at n) (drop_at p (x ++ y) places_at l)
    ∙ sym (words_front (x ++ y) at n places_bytes h)
    ∙ ap (λ (s : List ℕ). words_at s at n) (take_at x y places_bytes m)

module _ (here : List Bool) (lh : length here ≡ 12) (rows : List Float) (pending k : ℕ) (short : pending + k ≤ 64) (b new : List ℕ) (fit : Fit rows) (l : length b ≡ size)
    (p : new ≡ with_channels (channels here k rows) 256 (4 * pending) (take places_bytes (drop places_at b))) where
  -- the block is what stands before the places, they, and the hall
  front : List ℕ
  front = take places_at b

  old : List ℕ
  old = take places_bytes (drop places_at b)

  hall : List ℕ
  hall = drop places_bytes (drop places_at b)

  split : front ++ (old ++ hall) ≡ b
  unfolding front old hall
  split = ap (λ (t : List ℕ). take places_at b ++ t) (take-append-drop places_bytes (drop places_at b)) ∙ take-append-drop places_at b

  front_long : length front ≡ places_at
  unfolding front
  front_long = length-take-le places_at b (omega arith)

  old_long : length old ≡ places_bytes
  unfolding old
  old_long = length-take-le places_bytes (drop places_at b) (rw length-drop (omega arith))

  new_long : length new ≡ places_bytes
  unfolding old
  new_long = ap length p ∙ length_channels (channels here k rows) (4 * pending) old ∙ old_long

  put : put_mid places_at places_bytes b new ≡ front ++ (new ++ hall)
  unfolding front hall
  put = refl

  put_small : small_bytes (front ++ (new ++ hall)) ≡ small_bytes b
  put_small =
      let f = front_long in
      take-append-le infos_at front (new ++ hall) (omega arith) ∙ sym (take-append-le infos_at front (old ++ hall) (omega arith)) ∙ ap small_bytes split

  put_infos : infos_of (front ++ (new ++ hall)) ≡ infos_of b
  put_infos = infos_front front (new ++ hall) front_long ∙ sym (infos_front front (old ++ hall) front_long) ∙ ap infos_of split

  hall_behind : (x : List ℕ) → length x ≡ places_bytes → hall_bytes_of (front ++ (x ++ hall)) ≡ hall
  hall_behind x e =
      sym (drop-drop places_bytes places_at (front ++ (x ++ hall))) ∙ ap (drop places_bytes) (drop_at front (x ++ hall) places_at front_long) ∙ drop_at x hall places_bytes e

  put_hall : hall_bytes_of (front ++ (new ++ hall)) ≡ hall_bytes_of b
  put_hall = hall_behind new new_long ∙ sym (hall_behind old old_long) ∙ ap hall_bytes_of split

  put_place : (c : ℕ) (q : Bool) → ltb c 12 ≡ q
      → places_of (front ++ (new ++ hall)) c ≡ laid pending (cond (get_or here c false) (take k (drop (64 * c) rows)) []) (places_of b c)
  unfolding old
  put_place c true e =
      let i = ltb-true c 12 e in
      let ys = cond (get_or here c false) (take k (drop (64 * c) rows)) [] in
      let h : 256 * c + 4 * 64 ≤ places_bytes = omega arith in
      places_row (front ++ (new ++ hall)) c i
      ∙ words_between front new hall (256 * c) 64 front_long new_long h
      ∙ ap (λ (s : List ℕ). words_at s (256 * c) 64) p
      ∙ append_laid k pending short here lh rows old fit old_long c i
      ∙ ap (laid pending ys)
      (sym (words_between front old hall (256 * c) 64 front_long old_long h) ∙ ap (λ (s : List ℕ). words_at s (places_at + 256 * c) 64) split ∙ sym (places_row b c i))
  put_place c false e =
      let i = ltb-false c 12 e in
      let ys = cond (get_or here c false) (take k (drop (64 * c) rows)) [] in
      no_places (front ++ (new ++ hall)) c i ∙ sym (laid_nil pending ys) ∙ ap (laid pending ys) (sym (no_places b c i))

  pub lay_laid : Laid here rows pending k b (put_mid places_at places_bytes b new)
  lay_laid = rw put (record { small = put_small; infos = put_infos; places = fun_ext (λ c. put_place c (ltb c 12) refl); hall = put_hall })

-- the block as it would be with the rows laid
pub as_laid : (here : List Bool) → length here ≡ 12 → (rows : List Float) (pending k : ℕ) → pending + k ≤ 64 → (b : List ℕ) → Fit rows → length b ≡ size
    → (c : List ℕ) × Laid here rows pending k b c
as_laid here lh rows pending k short b fit l = (_, lay_laid here lh rows pending k short b _ fit l refl)
