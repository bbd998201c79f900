-- What the rules store is f32: sums, the filter, the gain, and the bits laid into places. Assumes nothing.
use mathlib.Core.Path.{◌≡◌, refl}
use mathlib.Core.Bool.{cond}
use mathlib.Core.List.{List, [], ◌∷◌, ◌++◌}
use Prim.Native.Nat.{ℕ, zero, suc, ◌^◌, ◌<◌}
use lib.Dec.{eqb}
use lib.ListN.{set, replicate}
use lib.IntN.{pos}
use lib.Ieee.{Float, binary32, fits, of_bits, to_bits, of_int, add, mul, div, eq, lt}
use lib.Ieee.Bits.{to_bits-lt}
use lib.Ieee.Fits.{add-fits, sub-fits, mul-fits}
use Rattle.ieee.specs.Bounds.{All}
use Rattle.words.specs.Words.{Words}
use Rattle.mixing.specs.Sums as sums
use Rattle.mixing.specs.Sums.{total}
use Rattle.angles.specs.Filter.{coefficients_of}
use Rattle.lowpass.specs.Lowpass.{new}
use Rattle.lowpass.specs.declared.BiquadLowpassState.{BiquadLowpassState}
use Rattle.limiter.specs.Limiter.{grown}
use Rattle.rules.specs.Parts.{0·0, 1·0, laid}
use Rattle.rules.specs.Mix.{Moment, beds_on, objects_on, heard}
use Rattle.rules.specs.Samples.{row}
use Rattle.rules.specs.Ranges.{Fits, FilterFits}
use Rattle.rules.proofs.EachOf.{either}

pub zero_fits : Fits 0·0
unfolding fits
zero_fits = tt

pub one_fits : Fits 1·0
unfolding fits
one_fits = tt

total_fits : (s : Float) (ts : List sums.Addend) → Fits s → Fits (total s ts)
total_fits s [] h = h
total_fits s (t ∷ ts) h =
    total_fits (cond (eq t.coef (of_bits binary32 0)) s (add binary32 s (mul binary32 t.sample t.coef))) ts
    (either Fits (eq t.coef (of_bits binary32 0)) h (add-fits binary32 s (mul binary32 t.sample t.coef)))

pub heard_fits : (m : Moment) (c : ℕ) → Fits (heard m c)
unfolding heard
heard_fits m c = total_fits 0·0 (beds_on m.hall c m.beds m.codes m.inputs ++ objects_on m.hall c m.objects m.own) zero_fits

pub grown_fits : (n rate : ℕ) (g : Float) → Fits (grown n rate g)
unfolding grown
grown_fits n rate g =
    let d = div binary32 (of_int binary32 (pos n)) (of_int binary32 (pos rate)) in
    let h = add binary32 g d in
    either Fits (lt 1·0 h) {x = 1·0} {y = h} one_fits (add-fits binary32 g d)

pub new_fits : (rate : ℕ) → FilterFits (new rate)
unfolding new coefficients_of
new_fits rate = record {
  a1 = mul-fits binary32 _ _;
  a2 = mul-fits binary32 _ _;
  b0 = mul-fits binary32 _ _;
  b1 = mul-fits binary32 _ _;
  b2 = mul-fits binary32 _ _;
  x1 = zero_fits;
  x2 = zero_fits;
  y1 = zero_fits;
  y2 = zero_fits;
}

-- ---- places
set_words : (ws : List ℕ) (k w : ℕ) → w < 2 ^ 32 → Words ws → Words (set ws k w)
set_words [] k w h p = tt
set_words (x ∷ ws) zero w h p = (h, p.1)
set_words (x ∷ ws) (suc k) w h p = (p.0, set_words ws k w h p.1)

pub laid_words : (k : ℕ) (xs : List Float) (ws : List ℕ) → All Fits xs → Words ws → Words (laid k xs ws)
laid_words k [] ws h p = p
laid_words k (x ∷ xs) ws h p = laid_words (suc k) xs (set ws k (to_bits binary32 x)) h.1 (set_words ws k (to_bits binary32 x) (to_bits-lt binary32 x h.0) p)

pub laid_none : (k : ℕ) (xs : List Float) → laid k xs [] ≡ []
laid_none k [] = refl
laid_none k (x ∷ xs) = laid_none (suc k) xs

pub same_words : (n w : ℕ) → w < 2 ^ 32 → Words (replicate n w)
same_words zero w h = tt
same_words (suc n) w h = (h, same_words n w h)

pub row_fits : (m : Moment) (r : BiquadLowpassState) (c : ℕ) → All Fits (row m r c)
row_fits m r c = either (All Fits) (eqb c 3) (sub-fits binary32 _ _, tt) (heard_fits m c, tt)
