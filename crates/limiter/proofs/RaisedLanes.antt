-- What `raise_lanes` leaves in its lanes: of each level and sample what `raise` leaves. Assumes nothing.
use mathlib.Core.Path.{◌≡◌, refl, sym, ap, ap₂, ◌∙◌}
use mathlib.Core.Bool.{Bool, true, false, cond}
use mathlib.Core.List.{List, [], ◌∷◌, map}
use Prim.Native.Nat.{ℕ, zero, suc, ◌-◌, ◌^◌}
use native.Mathlib.Nat.{suc-ne-zero, suc_inj}
use lib.ListN.{length, replicate}
use lib.Lanes.{zip2, sel_l, top, Each1}
use lib.Ieee.{Float, binary32, fits, sub, lt}
use lib.Ieee.Bits.{is_true}
use mir.Syntax.{w32}
use Rattle.std.proofs.lemmas.Simd.{tops_compared}
use Rattle.ieee.specs.Bounds.{All}
use Rattle.ieee.specs.Small.{absolute, larger}
use Rattle.ieee.proofs.Functions.{abs_kept, abs_turned}
use Rattle.limiter.specs.Limiter.{0·0}
use Rattle.limiter.proofs.Levels.{Level, Fit, raised}

-- what the type of a vector says of its lanes
pub lanes_fit : (xs : List Float) → Each1 Fit xs → All Fit xs
lanes_fit [] e = tt
lanes_fit (x ∷ xs) e = (e.0, lanes_fit xs e.1)

-- the lanes at which xs are below ys: a comparison leaves all bits of a lane or none, and `select` reads the top one
abbrev pub below : List Float → List Float → List Bool
below xs ys = map (top 31) (zip2 (λ (x y : Float). cond (lt x y) (2 ^ 32 - 1) 0) xs ys)

-- the sizes of xs: 0 - x, or x where it is above that
abbrev pub sizes : List Float → List Float
sizes xs = let ys = zip2 (sub binary32) (replicate 16 0·0) xs in sel_l (below ys xs) xs ys

size_is : (x : Float) → Fit x → let y = sub binary32 0·0 x in cond (lt y x) x y ≡ absolute x
size_is x f = by_test (lt (sub binary32 0·0 x) x) refl
  where
    fit : fits binary32 x ≡ true
    fit = is_true (fits binary32 x) f

    by_test : (b : Bool) → lt (sub binary32 0·0 x) x ≡ b → cond b x (sub binary32 0·0 x) ≡ absolute x
    by_test true e = abs_kept x fit e
    by_test false e = abs_turned x fit e

sizes_are : (xs : List Float) → length xs ≡ 16 → All Fit xs → sizes xs ≡ map absolute xs
sizes_are xs e f = let ys = zip2 (sub binary32) (replicate 16 0·0) xs in ap (λ (ts : List Bool). sel_l ts xs ys) (tops_compared w32 lt ys xs) ∙ each 16 xs e f
  where
    each : (n : ℕ) (xs : List Float) → length xs ≡ n → All Fit xs → let ys = zip2 (sub binary32) (replicate n 0·0) xs in sel_l (zip2 lt ys xs) xs ys ≡ map absolute xs
    each zero [] e f = refl
    each zero (x ∷ xs) e f = absurd (suc-ne-zero (length xs) e)
    each (suc n) [] e f = absurd (suc-ne-zero n (sym e))
    each (suc n) (x ∷ xs) e f = ap₂ ◌∷◌ (size_is x f.0) (each n xs (suc_inj e) f.1)

-- the larger of each level and number
largest : (ms ss : List Float) → All Level ms → sel_l (below ms ss) ss ms ≡ zip2 larger ms ss
unfolding larger
largest ms ss l = ap (λ (ts : List Bool). sel_l ts ss ms) (tops_compared w32 lt ms ss) ∙ each ms ss l
  where
    one : (m s : Float) → Level m → cond (lt m s) s m ≡ larger m s
    one m s p = sym (ap (λ (b : Bool). cond b s (cond (lt m s) s m)) p.number)

    each : (ms ss : List Float) → All Level ms → sel_l (zip2 lt ms ss) ss ms ≡ zip2 larger ms ss
    each [] ss l = refl
    each (m ∷ ms) [] l = refl
    each (m ∷ ms) (s ∷ ss) l = ap₂ ◌∷◌ (one m s l.0) (each ms ss l.1)

-- `raise_lanes`
pub lanes_raised : (ms xs : List Float) → length xs ≡ 16 → All Level ms → All Fit xs → sel_l (below ms (sizes xs)) (sizes xs) ms ≡ zip2 larger ms (map absolute xs)
lanes_raised ms xs e l f = ap (λ (ss : List Float). sel_l (below ms ss) ss ms) (sizes_are xs e f) ∙ largest ms (map absolute xs) l

pub lanes_levels : (ms xs : List Float) → All Level ms → All Fit xs → All Level (zip2 larger ms (map absolute xs))
lanes_levels [] xs l f = tt
lanes_levels (m ∷ ms) [] l f = tt
lanes_levels (m ∷ ms) (x ∷ xs) l f = ((raised m x l.0 f.0).level, lanes_levels ms xs l.1 f.1)
