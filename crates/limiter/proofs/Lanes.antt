-- Running maxima in the lanes of a vector: with what is left of a slice they have the bounds of the whole slice, so that it does not matter which sample goes to which lane.
-- Assumes nothing.
use mathlib.Core.Path.{◌≡◌, sym, ap, ◌∙◌, subst}
use mathlib.Core.List.{List, [], ◌∷◌, ◌++◌, map}
use Prim.Native.Nat.{ℕ, zero, suc, ◌+◌, ◌*◌, ◌≤◌, ◌<◌}
use native.Mathlib.Nat.{le_trans, le_of_suc-le-suc, not-suc-le-zero, suc-ne-zero, suc_inj, mul-suc, mul-zero}
use native.Mathlib.Omega.{arith}
use lib.ListN.{length, get_or, take, drop, replicate, length-drop}
use lib.Seq.{drop-cons, drop-drop, length-take-le}
use lib.Lanes.{zip2}
use lib.LanesLaws.{chunk-drop}
use lib.Ieee.{Float, nan}
use Rattle.std.specs.Simd.{first_chunks}
use Rattle.ieee.specs.Bounds.{All}
use Rattle.ieee.specs.Small.{absolute, larger}
use Rattle.limiter.specs.Limiter.{0·0, peak_from, peak}
use Rattle.limiter.proofs.Levels.{Level, Fit, rank, Raised, raised, raised_by}
use Rattle.limiter.proofs.Peaks.{Under, Same, same_as, only, zero_level, zero_under, taken_in, peak_from_is, all_fit}

-- ---- a fact of each element: of lists joined, of their parts, of copies of one
module _ (P : Float → Type 0) where
  both : (xs ys : List Float) → All P xs → All P ys → All P (xs ++ ys)
  both [] ys u v = v
  both (x ∷ xs) ys u v = (u.0, both xs ys u.1 v)

  parts : (xs ys : List Float) → All P (xs ++ ys) → All P xs × All P ys
  parts [] ys u = (tt, u)
  parts (x ∷ xs) ys u = let w = parts xs ys u.1 in ((u.0, w.0), w.1)

  copies : (n : ℕ) (x : Float) → P x → All P (replicate n x)
  copies zero x p = tt
  copies (suc n) x p = (p, copies n x p)

-- `Under k` is that of each
abbrev Low : ℕ → Float → Type 0
Low k x = rank x ≤ k

-- ---- levels raised by as many samples have the bounds of both
module _ (k : ℕ) where
  down : (ms xs : List Float) → length ms ≡ length xs → All Level ms → All Fit xs → Under k (zip2 larger ms (map absolute xs)) → Under k ms × Under k xs
  down [] [] e l f u = (tt, tt)
  down [] (x ∷ xs) e l f u = absurd (suc-ne-zero (length xs) (sym e))
  down (m ∷ ms) [] e l f u = absurd (suc-ne-zero (length ms) e)
  down (m ∷ ms) (x ∷ xs) e l f u =
      let h = raised m x l.0 f.0 in
      let w = down ms xs (suc_inj e) l.1 f.1 u.1 in ((le_trans h.first u.0, w.0), (le_trans h.second u.0, w.1))

  up : (ms xs : List Float) → All Level ms → All Fit xs → Under k ms → Under k xs → Under k (zip2 larger ms (map absolute xs))
  up [] xs l f u v = tt
  up (m ∷ ms) [] l f u v = tt
  up (m ∷ ms) (x ∷ xs) l f u v = ((raised m x l.0 f.0).least k u.0 v.0, up ms xs l.1 f.1 u.1 v.1)

raised_same : (ms xs rest : List Float) → length ms ≡ length xs → All Level ms → All Fit xs → Same (zip2 larger ms (map absolute xs) ++ rest) (ms ++ (xs ++ rest))
raised_same ms xs rest n l f =
    let rs = zip2 larger ms (map absolute xs) in
    record {
      to = λ k u.
          let v = parts (Low k) rs rest u in
          let w = down k ms xs n l f v.0 in
          both (Low k) ms (xs ++ rest) w.0 (both (Low k) xs rest w.1 v.1);
      from = λ k u.
          let v = parts (Low k) ms (xs ++ rest) u in
          let w = parts (Low k) xs rest v.1 in
          both (Low k) rs rest (up k ms xs l f v.0 w.0) w.1;
    }

-- ---- the maxima and what is left have the bounds of the whole
pub record Lanes (ms rest whole : List Float) : Type 0 where
  pub levels : All Level ms
  pub fit : All Fit rest
  pub same : Same (ms ++ rest) whole

pub lanes_start : (xs : List Float) → ((k : ℕ) → Fit (get_or xs k nan)) → Lanes (replicate 16 0·0) xs xs
lanes_start xs f = record {
  levels = copies Level 16 0·0 zero_level;
  fit = all_fit xs f;
  same = record { to = λ k u. (parts (Low k) (replicate 16 0·0) xs u).1; from = λ k u. both (Low k) (replicate 16 0·0) xs (copies (Low k) 16 0·0 (zero_under k)) u };
}

-- the next sixteen samples taken in, one by each lane
pub lanes_next : (ms rs xs : List Float) (i : ℕ) → length ms ≡ 16 → 16 * i + 16 ≤ length xs → Lanes ms (drop (16 * i) xs) xs
    → rs ≡ zip2 larger ms (map absolute (take 16 (drop (16 * i) xs))) → All Level rs → Lanes rs (drop (16 * (i + 1)) xs) xs
lanes_next ms rs xs i n h l e p =
    let ys = take 16 (drop (16 * i) xs) in
    let rest = drop (16 * (i + 1)) xs in
    let at : 16 * i + 16 ≡ 16 * (i + 1) = omega arith in
    let m : length ms ≡ length ys = n ∙ sym (length-take-le 16 (drop (16 * i) xs) (omega (arith, length-drop (16 * i) xs))) in
    let k : Lanes ms (ys ++ rest) xs = subst (λ (zs : List Float). Lanes ms zs xs) (chunk-drop (16 * i) 16 xs ∙ ap (λ (j : ℕ). ys ++ drop j xs) at) l in
    let f = parts Fit ys rest k.fit in
    record { levels = p; fit = f.1; same = subst (λ (zs : List Float). Same (zs ++ rest) xs) (sym e) (same_as (raised_same ms ys rest m k.levels f.0) k.same) }

-- the maximum of the maxima, and the rest taken in one by one
pub lanes_rest : (ms rest xs : List Float) → ((k : ℕ) → Fit (get_or xs k nan)) → Lanes ms rest xs → peak_from (peak ms) rest ≡ peak xs
lanes_rest ms rest xs f l =
    let top = peak_from_is 0·0 ms zero_level (levels_fit ms l.levels) in
    let left = peak_from_is (peak ms) rest top.0 l.fit in
    let right = peak_from_is 0·0 xs zero_level (all_fit xs f) in
    only (peak_from (peak ms) rest) (peak xs) left.0 right.0
    (same_as left.1 (same_as (record {
      to = λ k u. both (Low k) ms rest (top.1.to k (u.0, tt)).1 u.1;
      from = λ k u. let v = parts (Low k) ms rest u in ((top.1.from k (zero_under k, v.0)).0, v.1);
    }) l.same))
    (same_as right.1 (record { to = λ k u. u.1; from = λ k u. (zero_under k, u) }))
  where
    levels_fit : (ms : List Float) → All Level ms → All Fit ms
    levels_fit [] l = tt
    levels_fit (m ∷ ms) l = (l.0.fit, levels_fit ms l.1)

-- ---- four of them
-- four samples taken in
four_in : {a b c d x y z w a' b' c' d' : Float} {rest whole : List Float} → Lanes (a ∷ b ∷ c ∷ d ∷ []) (x ∷ y ∷ z ∷ w ∷ rest) whole
    → Raised a x a' → Raised b y b' → Raised c z c' → Raised d w d' → Lanes (a' ∷ b' ∷ c' ∷ d' ∷ []) rest whole
four_in h p q r s = record {
  levels = (p.level, (q.level, (r.level, (s.level, tt))));
  fit = h.fit.1.1.1.1;
  same = same_as (record {
    to = λ k u. (
      le_trans p.first u.0,
      (
        le_trans q.first u.1.0,
        (
          le_trans r.first u.1.1.0,
          (
            le_trans s.first u.1.1.1.0,
            (le_trans p.second u.0, (le_trans q.second u.1.0, (le_trans r.second u.1.1.0, (le_trans s.second u.1.1.1.0, u.1.1.1.1)))),
          ),
        ),
      ),
    );
    from = λ k u. (
      p.least k u.0 u.1.1.1.1.0,
      (
        q.least k u.1.0 u.1.1.1.1.1.0,
        (r.least k u.1.1.0 u.1.1.1.1.1.1.0, (s.least k u.1.1.1.0 u.1.1.1.1.1.1.1.0, u.1.1.1.1.1.1.1.1)),
      ),
    );
  }) h.same;
}

-- joined, and the rest taken in one by one
pub lanes_end : {a b c d p q r : Float} {rest whole : List Float} → Lanes (a ∷ b ∷ c ∷ d ∷ []) rest whole → Raised a b p → Raised p c q → Raised q d r → All Fit rest
    → All Fit whole → peak_from r rest ≡ peak whole
lanes_end {a} {b} {c} {d} {p} {q} {r} {rest} {whole} h i j l f g =
    let left = peak_from_is r rest l.level f in
    let right = peak_from_is 0·0 whole zero_level g in
    only (peak_from r rest) (peak whole) left.0 right.0
    (same_as left.1 (same_as (taken_in l) (same_as (taken_in j) (same_as (taken_in i) h.same))))
    (same_as right.1 (record { to = λ k u. u.1; from = λ k u. (zero_under k, u) }))

four : (xs : List Float) (i : ℕ) → i + 4 ≤ length xs → drop i xs ≡ get_or xs i nan ∷ get_or xs (i + 1) nan ∷ get_or xs (i + 2) nan ∷ get_or xs (i + 3) nan ∷ drop (i + 4) xs
four xs i h =
    one i (i + 1) (omega arith) (omega arith)
    ∙ ap (λ (l : List Float). get_or xs i nan ∷ l) (one (i + 1) (i + 2) (omega arith) (omega arith)
    ∙ ap (λ (l : List Float). get_or xs (i + 1) nan ∷ l) (one (i + 2) (i + 3) (omega arith) (omega arith)
    ∙ ap (λ (l : List Float). get_or xs (i + 2) nan ∷ l) (one (i + 3) (i + 4) (omega arith) (omega arith))))
  where
    one : (k n : ℕ) → k < length xs → suc k ≡ n → drop k xs ≡ get_or xs k nan ∷ drop n xs
    one k n h e = drop-cons xs k nan h ∙ ap (λ (n : ℕ). get_or xs k nan ∷ drop n xs) e

pub lanes_again : (xs : List Float) (i : ℕ) {a b c d a' b' c' d' : Float} → i + 4 ≤ length xs → ((k : ℕ) → Fit (get_or xs k nan))
    → Lanes (a ∷ b ∷ c ∷ d ∷ []) (drop i xs) xs
    → a' ≡ larger a (absolute (get_or xs i nan)) → b' ≡ larger b (absolute (get_or xs (i + 1) nan)) → c' ≡ larger c (absolute (get_or xs (i + 2) nan))
    → d' ≡ larger d (absolute (get_or xs (i + 3) nan))
    → Lanes (a' ∷ b' ∷ c' ∷ d' ∷ []) (drop (i + 4) xs) xs
lanes_again xs i {a} {b} {c} {d} {a'} {b'} {c'} {d'} h f l p q r s =
    four_in (subst (λ (ys : List Float). Lanes (a ∷ b ∷ c ∷ d ∷ []) ys xs) (four xs i h) l)
    (raised_by a (get_or xs i nan) a' l.levels.0 (f i) p) (raised_by b (get_or xs (i + 1) nan) b' l.levels.1.0 (f (i + 1)) q)
    (raised_by c (get_or xs (i + 2) nan) c' l.levels.1.1.0 (f (i + 2)) r) (raised_by d (get_or xs (i + 3) nan) d' l.levels.1.1.1.0 (f (i + 3)) s)

-- ---- chunk i of n samples
pub chunk_is : (n k i : ℕ) (xs : List Float) → i < k → get_or (first_chunks n k xs) i [] ≡ take n (drop (n * i) xs)
chunk_is n zero i xs h = absurd (not-suc-le-zero h)
chunk_is n (suc k) zero xs h = ap (λ (j : ℕ). take n (drop j xs)) (sym (mul-zero n))
chunk_is n (suc k) (suc i) xs h =
    chunk_is n k i (drop n xs) (le_of_suc-le-suc h) ∙ ap (take n) (drop-drop (n * i) n xs ∙ ap (λ (j : ℕ). drop j xs) (omega (arith, mul-suc n i)))
