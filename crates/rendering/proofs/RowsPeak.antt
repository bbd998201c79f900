-- The peak of all rows is that of the channels that are there, where those of the others are +0.0. Assumes nothing.
use Prim.Native.Nat.{ℕ, zero, suc, ◌+◌, ◌*◌, ◌≤◌, ◌<◌}
use mathlib.Core.Path.{◌≡◌, refl, sym, ap, ◌∙◌, subst}
use mathlib.Core.Bool.{Bool, true, false, cond}
use mathlib.Core.List.{List, [], ◌∷◌}
use native.Mathlib.Nat.{le_refl, le_antisymm}
use native.Mathlib.Omega.{arith}
use lib.ListN.{length, get_or, take, drop, length-drop, take-append-drop}
use lib.Seq.{drop-drop}
use lib.Ieee.{Float, nan}
use Rattle.ieee.specs.Bounds.{All}
use Rattle.limiter.specs.Limiter.{0·0, peak, block_peak}
use Rattle.limiter.specs.ChannelPlaces.{channels}
use Rattle.limiter.proofs.Levels.{Fit, rank, level_unique}
use Rattle.limiter.proofs.Peaks.{zero_level, zero_under, peak_from_is, all_fit, block_peak_is}
use Rattle.rules.proofs.Theorems.{all_append}
use Rattle.rendering.specs.Give.{AbsentSilent}

module _ (P : Float → Type 0) where
  pub all_take : (n : ℕ) (xs : List Float) → All P xs → All P (take n xs)
  all_take zero xs h = tt
  all_take (suc n) [] h = tt
  all_take (suc n) (x ∷ xs) h = (h.0, all_take n xs h.1)

  pub all_drop : (n : ℕ) (xs : List Float) → All P xs → All P (drop n xs)
  all_drop zero xs h = h
  all_drop (suc n) [] h = tt
  all_drop (suc n) (x ∷ xs) h = all_drop n xs h.1

  to_channels : (here : List Bool) (xs : List Float) → All P xs → All (All P) (channels here 64 xs)
  unfolding channels
  to_channels [] xs h = tt
  to_channels (true ∷ here) xs h = (all_take 64 xs h, to_channels here (drop 64 xs) (all_drop 64 xs h))
  to_channels (false ∷ here) xs h = (tt, to_channels here (drop 64 xs) (all_drop 64 xs h))

  none : (xs : List Float) → length xs ≤ 0 → All P xs
  none [] h = tt
  none (x ∷ xs) h = absurd (omega arith)

  of_zeros : P 0·0 → (xs : List Float) → All (λ (x : Float). x ≡ 0·0) xs → All P xs
  of_zeros z [] h = tt
  of_zeros z (x ∷ xs) h = (subst P (sym h.0) z, of_zeros z xs h.1)

  -- of k rows, those of the channels that are absent are +0.0
  abbrev Silent : ℕ → List Bool → List Float → Type 0
  Silent k here xs = (c : ℕ) → c < k → get_or here c false ≡ false → All (λ (x : Float). x ≡ 0·0) (take 64 (drop (64 * c) xs))

  silent_more : (k : ℕ) (h : Bool) (here : List Bool) (xs : List Float) → Silent (suc k) (h ∷ here) xs → Silent k here (drop 64 xs)
  silent_more k h here xs s c l e =
      subst (All (λ (x : Float). x ≡ 0·0))
      (ap (take 64) (ap (λ (i : ℕ). drop i xs) (let i : 64 * suc c ≡ 64 + 64 * c = omega arith in i) ∙ sym (drop-drop (64 * c) 64 xs)))
      (s (suc c) (omega arith) e)

  from_channels : P 0·0 → (k : ℕ) (here : List Bool) (xs : List Float) → length here ≡ k → length xs ≤ 64 * k → Silent k here xs → All (All P) (channels here 64 xs) → All P xs
  unfolding channels
  from_channels z zero [] xs l e s h = none xs e
  from_channels z zero (b ∷ here) xs l e s h = none xs e
  from_channels z (suc k) [] xs l e s h = absurd (omega arith)
  from_channels z (suc k) (b ∷ here) xs l e s h =
      subst (All P) (take-append-drop 64 xs)
      (all_append P (take 64 xs) (drop 64 xs) (row b refl)
      (from_channels z k here (drop 64 xs) (omega arith) (rw length-drop (omega arith)) (silent_more k b here xs s) h.1))
    where
      row : (q : Bool) → b ≡ q → All P (take 64 xs)
      row true q = subst (λ (b : Bool). All P (cond b (take 64 xs) [])) q h.0
      row false q = of_zeros z (take 64 xs) (s 0 (omega arith) q)

pub rows_peak : (here : List Bool) (ys : List Float) → length here ≡ 12 → length ys ≡ 768 → ((i : ℕ) → Fit (get_or ys i nan)) → AbsentSilent here ys
    → peak ys ≡ block_peak 0·0 (channels here 64 ys)
rows_peak here ys m l f s =
    let cs = channels here 64 ys in
    let fit = all_fit ys f in
    let p = peak_from_is 0·0 ys zero_level fit in
    let b = block_peak_is 0·0 cs zero_level (to_channels Fit here ys fit) in
    let i = rank (peak ys) in
    let j = rank (block_peak 0·0 cs) in
    level_unique (peak ys) (block_peak 0·0 cs) p.0 b.level
    (le_antisymm
    (p.1.from j (zero_under j, from_channels (λ (x : Float). rank x ≤ j) (zero_under j) 12 here ys m (omega arith) s b.each)).0
    (b.least i (zero_under i) (to_channels (λ (x : Float). rank x ≤ i) here ys (p.1.to i (le_refl i, tt)).1)))
