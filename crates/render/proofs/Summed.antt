-- The sums of a channel's terms: one term more, more samples. Assumes nothing.
use mathlib.Core.Path.{◌≡◌, refl, sym, ap, ap₂, subst, ◌∙◌}
use mathlib.Core.List.{List, [], ◌∷◌, ◌++◌}
use Prim.Native.Nat.{ℕ, zero, suc, ◌+◌, ◌*◌, ◌<◌}
use native.Mathlib.Nat.{not-suc-le-zero, le_of_suc-le-suc}
use native.Mathlib.Omega.{arith}
use native.Mathlib.Numerals.{add-one}
use lib.ListN.{length, get_or, replicate, take}
use lib.Seq.{take-suc, take-length}
use lib.Lanes.{zip2}
use lib.Ieee.{Float, binary32, add, mul}
use Rattle.words.specs.Words.{float_at}
use Rattle.mixing.specs.FrameSamples.{samples}
use Rattle.rules.specs.Parts.{0·0}
use Rattle.rules.specs.Mix.{sample_at}
use Rattle.render.specs.declared.lists.Fed.{Fed}
use Rattle.render.specs.Listed.{fed_with, FedBy, added_to, sum_at, sums_at}

-- ---- terms

any_default : (fs : List Fed) (j : ℕ) (d e : Fed) → j < length fs → get_or fs j d ≡ get_or fs j e
any_default [] j d e h = absurd (not-suc-le-zero h)
any_default (f ∷ fs) zero d e h = refl
any_default (f ∷ fs) (suc j) d e h = any_default fs j d e (le_of_suc-le-suc h)

-- whichever value stands for a term past the end
pub fed_by_at : (m : ℕ) (fs : List Fed) (j : ℕ) (d : Fed) → FedBy m fs → j < length fs → (get_or fs j d).input < m
fed_by_at m fs j d f h = subst (λ (g : Fed). g.input < m) (any_default fs j (fed_with 0 0·0) d h) (f j h)

-- s with the sample x of a term's input times its gain
abbrev plus : Float → Float → Float → Float
plus s x g = add binary32 s (mul binary32 x g)

added_append : (x : ℕ → Float) (s : Float) (fs gs : List Fed) → added_to x s (fs ++ gs) ≡ added_to x (added_to x s fs) gs
added_append x s [] gs = refl
added_append x s (f ∷ fs) gs = added_append x (plus s (x f.input) f.gain) fs gs

module _ (pcm : List ℕ) (n : ℕ) (fs : List Fed) where
  -- the first j terms and the one behind them
  module _ (j : ℕ) (d : Fed) (h : j < length fs) where
    abbrev last : Fed
    last = get_or fs j d

    sum_suc : (t : ℕ) → sum_at pcm n (take (suc j) fs) t ≡ plus (sum_at pcm n (take j fs) t) (sample_at pcm n last.input t) last.gain
    sum_suc t =
        let x : ℕ → Float = λ i. sample_at pcm n i t in
        ap (added_to x 0·0) (take-suc fs j d h) ∙ added_append x 0·0 (take j fs) (last ∷ [])

    -- at each of k samples, as vectors add them
    sums_suc : (k t at : ℕ) → at ≡ 4 * (last.input * n + t)
        → sums_at pcm n (take (suc j) fs) t k ≡ zip2 (add binary32) (sums_at pcm n (take j fs) t k) (zip2 (mul binary32) (samples pcm at k) (replicate k last.gain))
    sums_suc zero t at e = refl
    sums_suc (suc k) t at e =
        let one = sum_suc t ∙ ap (λ (a : ℕ). plus (sum_at pcm n (take j fs) t) (float_at pcm a) last.gain) (sym e) in
        ap₂ (λ (x : Float) (xs : List Float). x ∷ xs) one (sums_suc k (suc t) (at + 4) (omega arith))

    -- the same, as a loop counts
    pub sum_more : (t at : ℕ) → at ≡ 4 * (last.input * n + t) → sum_at pcm n (take (j + 1) fs) t ≡ plus (sum_at pcm n (take j fs) t) (float_at pcm at) last.gain
    sum_more t at e =
        ap (λ (i : ℕ). sum_at pcm n (take i fs) t) (add-one j) ∙ sum_suc t ∙ ap (λ (a : ℕ). plus (sum_at pcm n (take j fs) t) (float_at pcm a) last.gain) (sym e)

    pub sums_more : (k t at : ℕ) → at ≡ 4 * (last.input * n + t)
        → sums_at pcm n (take (j + 1) fs) t k ≡ zip2 (add binary32) (sums_at pcm n (take j fs) t k) (zip2 (mul binary32) (samples pcm at k) (replicate k last.gain))
    sums_more k t at e = ap (λ (i : ℕ). sums_at pcm n (take i fs) t k) (add-one j) ∙ sums_suc k t at e

  -- all of the terms
  pub sum_all : (j t : ℕ) → j ≡ length fs → sum_at pcm n (take j fs) t ≡ sum_at pcm n fs t
  sum_all j t e = ap (λ (gs : List Fed). sum_at pcm n gs t) (ap (λ (i : ℕ). take i fs) e ∙ take-length fs)

  pub sums_all : (j t k : ℕ) → j ≡ length fs → sums_at pcm n (take j fs) t k ≡ sums_at pcm n fs t k
  sums_all j t k e = ap (λ (gs : List Fed). sums_at pcm n gs t k) (ap (λ (i : ℕ). take i fs) e ∙ take-length fs)

  -- ---- samples

  pub length_sums : (t k : ℕ) → length (sums_at pcm n fs t k) ≡ k
  length_sums t zero = refl
  length_sums t (suc k) = ap suc (length_sums (suc t) k)

  -- the sums of j samples, then those of the k samples behind them
  pub sums_then : (t u j k m : ℕ) → u ≡ t + j → m ≡ j + k → sums_at pcm n fs t m ≡ sums_at pcm n fs t j ++ sums_at pcm n fs u k
  sums_then t u zero k m e f = let p : m ≡ k = omega arith in let q : t ≡ u = omega arith in ap₂ (λ (s i : ℕ). sums_at pcm n fs s i) q p
  sums_then t u (suc j) k zero e f = absurd (omega arith)
  sums_then t u (suc j) k (suc m) e f = ap (λ (xs : List Float). sum_at pcm n fs t ∷ xs) (sums_then (suc t) u j k m (omega arith) (omega arith))
