-- The peak of a list, by ranks: a bound on the peak is a bound on each sample. So lists with the same bounds have the same peak, in whatever order or number of running maxima
-- it is taken. Assumes nothing.
use mathlib.Core.Path.{◌≡◌, refl, sym, ap, ◌∙◌, subst}
use mathlib.Core.List.{List, [], ◌∷◌}
use Prim.Native.Nat.{ℕ, suc, ◌+◌, ◌≤◌, ◌<◌, zero-le}
use native.Mathlib.Numerals.{add-one}
use native.Mathlib.Nat.{le_refl, le_trans, le_antisymm}
use lib.ListN.{length, get_or, drop, drop_of_length-le}
use lib.Seq.{drop-cons}
use lib.Ieee.{Float, nan, fits}
use Rattle.ieee.specs.Units.{mag}
use Rattle.ieee.specs.Bounds.{All}
use Rattle.ieee.specs.Small.{absolute, larger}
use Rattle.limiter.specs.Limiter.{0·0, peak_from, peak, block_peak}
use Rattle.limiter.proofs.Levels.{Level, Fit, rank, level_unique, level_abs, Raised, raised}

-- each rank is at most k
abbrev pub Under : ℕ → List Float → Type 0
Under k xs = All (λ (x : Float). rank x ≤ k) xs

-- the same bounds
pub record Same (xs ys : List Float) : Type 0 where
  pub to : (k : ℕ) → Under k xs → Under k ys
  pub from : (k : ℕ) → Under k ys → Under k xs

pub same_as : {xs ys zs : List Float} → Same xs ys → Same ys zs → Same xs zs
same_as p q = record { to = λ k u. q.to k (p.to k u); from = λ k u. p.from k (q.from k u) }

pub self : (xs : List Float) → Same xs xs
self xs = record { to = λ k u. u; from = λ k u. u }

-- a level that bounds as the list does is the only one
pub only : (a b : Float) {xs : List Float} → Level a → Level b → Same (a ∷ []) xs → Same (b ∷ []) xs → a ≡ b
only a b p q s t = level_unique a b p q (le_antisymm (s.from (rank b) (t.to (rank b) (le_refl (rank b), tt))).0 (t.from (rank a) (s.to (rank a) (le_refl (rank a), tt))).0)

pub zero_level : Level 0·0
unfolding fits lib.Ieee.is_nan
zero_level = record { fit = tt; number = refl; plus = refl }

zero_rank : rank 0·0 ≡ 0
unfolding rank mag
zero_rank = refl

pub zero_under : (k : ℕ) → rank 0·0 ≤ k
zero_under k = subst (λ (z : ℕ). z ≤ k) (sym zero_rank) zero-le

-- a sample taken in
pub taken_in : {m x r : Float} {xs : List Float} → Raised m x r → Same (r ∷ xs) (m ∷ x ∷ xs)
taken_in h = record { to = λ k u. (le_trans h.first u.0, (le_trans h.second u.0, u.1)); from = λ k u. (h.least k u.0 u.1.0, u.1.1) }

pub peak_from_is : (m : Float) (xs : List Float) → Level m → All Fit xs → Level (peak_from m xs) × Same (peak_from m xs ∷ []) (m ∷ xs)
peak_from_is m [] p f = (p, self (m ∷ []))
peak_from_is m (x ∷ xs) p f =
    let h = raised m x p f.0 in
    let r = peak_from_is (larger m (absolute x)) xs h.level f.1 in
    (r.0, same_as r.1 (taken_in h))

-- ---- what a loop over a slice needs
-- every element of a slice fits
pub all_fit : (xs : List Float) → ((k : ℕ) → Fit (get_or xs k nan)) → All Fit xs
all_fit [] f = tt
all_fit (x ∷ xs) f = (f 0, all_fit xs (λ k. f (suc k)))

-- the next sample is taken in, or none is left
pub from_next : (m r : Float) (xs : List Float) (i : ℕ) → i < length xs → r ≡ larger m (absolute (get_or xs i nan)) → peak_from r (drop (i + 1) xs) ≡ peak_from m (drop i xs)
from_next m r xs i h e = ap (λ (v : Float). peak_from v (drop (i + 1) xs)) e ∙ ap (λ (n : ℕ). peak_from (larger m (absolute (get_or xs i nan))) (drop n xs)) (add-one i)
    ∙ sym (ap (peak_from m) (drop-cons xs i nan h))

pub from_end : (m : Float) (xs : List Float) (i : ℕ) → length xs ≤ i → m ≡ peak_from m (drop i xs)
from_end m xs i h = sym (ap (peak_from m) (drop_of_length-le xs h))

-- ---- a block
-- p bounds each channel, and is the least such level from m on
pub record Block (m p : Float) (cs : List (List Float)) : Type 0 where
  pub level : Level p
  pub first : rank m ≤ rank p
  pub each : All (Under (rank p)) cs
  pub least : (k : ℕ) → rank m ≤ k → All (Under k) cs → rank p ≤ k

pub block_peak_is : (m : Float) (cs : List (List Float)) → Level m → All (All Fit) cs → Block m (block_peak m cs) cs
unfolding block_peak
block_peak_is m [] p f = record { level = p; first = le_refl (rank m); each = tt; least = λ k a b. a }
block_peak_is m (c ∷ cs) p f =
    let one = peak_from_is 0·0 c zero_level f.0 in
    let h = subst (λ (v : Float). Raised m (peak c) (larger m v)) (level_abs (peak c) one.0) (raised m (peak c) p one.0.fit) in
    let r = block_peak_is (larger m (peak c)) cs h.level f.1 in
    let top = rank (block_peak (larger m (peak c)) cs) in
    record {
      level = r.level;
      first = le_trans h.first r.first;
      each = ((one.1.to top (le_trans h.second r.first, tt)).1, r.each);
      least = λ k a b. r.least k (h.least k a (one.1.from k (zero_under k, b.0)).0) b.1;
    }
