-- Scaled samples: their number, what scaling by 1 leaves, and four more or one more of them written to bytes. Assumes nothing.
use mathlib.Core.Path.{◌≡◌, refl, sym, ap, ap₂, ◌∙◌}
use mathlib.Core.List.{List, [], ◌∷◌}
use Prim.Native.Nat.{ℕ, zero, suc, ◌+◌, ◌*◌, ◌≤◌, ◌<◌}
use native.Mathlib.Nat.{not-suc-le-zero, le_of_suc-le-suc}
use native.Mathlib.Omega.{arith}
use native.Mathlib.Numerals.{add-one}
use lib.Dec.{T}
use lib.Ieee.Bits.{is_true}
use lib.Lanes.{zip2, chunk}
use lib.ListN.{length, get_or, replicate, take, drop, length-drop, drop_of_length-le}
use lib.Seq.{drop-cons, drop-drop}
use lib.Ieee.{Float, nan, binary32, fits, mul}
use Rattle.ieee.proofs.Exact.{mul_one}
use Rattle.words.specs.Words.{with_float}
use Rattle.limiter.specs.Limiter.{1·0, scaled}
use Rattle.limiter.specs.ChannelPlaces.{with_floats}

pub length_scaled : (g : Float) (xs : List Float) → length (scaled g xs) ≡ length xs
length_scaled g [] = refl
length_scaled g (x ∷ xs) = ap suc (length_scaled g xs)

-- a gain of 1 changes none of the first n, which are f32s
pub scaled_one : (n : ℕ) (xs : List Float) → ((i : ℕ) → T (fits binary32 (get_or xs i nan))) → scaled 1·0 (take n xs) ≡ take n xs
scaled_one zero xs h = refl
scaled_one (suc n) [] h = refl
scaled_one (suc n) (x ∷ xs) h = ap₂ (λ (y : Float) (ys : List Float). y ∷ ys) (mul_one x (is_true (fits binary32 x) (h 0))) (scaled_one n xs (λ i. h (suc i)))

-- the first n are written as lanes, and then the others
lanes_first : (g : Float) (s : List ℕ) (at n : ℕ) (xs : List Float) → n ≤ length xs
    → with_floats (with_floats s at (zip2 (mul binary32) (take n xs) (replicate n g))) (at + 4 * n) (scaled g (drop n xs)) ≡ with_floats s at (scaled g xs)
lanes_first g s at zero xs h = ap (λ (k : ℕ). with_floats s k (scaled g xs)) (let e : at + 4 * zero ≡ at = omega arith in e)
lanes_first g s at (suc n) [] h = absurd (not-suc-le-zero h)
lanes_first g s at (suc n) (x ∷ xs) h =
    let t = with_float s at (mul binary32 x g) in
    ap (λ (k : ℕ). with_floats (with_floats t (at + 4) (zip2 (mul binary32) (take n xs) (replicate n g))) k (scaled g (drop n xs)))
    (let e : at + 4 * suc n ≡ at + 4 + 4 * n = omega arith in e)
    ∙ lanes_first g t (at + 4) n xs (le_of_suc-le-suc h)

-- four samples more are written
pub write_four : (g : Float) (s t : List ℕ) (j : ℕ) (xs : List Float) → 4 * j + 4 ≤ length xs
    → t ≡ with_floats s (16 * j) (zip2 (mul binary32) (chunk (4 * j) 4 xs) (replicate 4 g))
    → with_floats t (16 * (j + 1)) (scaled g (drop (4 * (j + 1)) xs)) ≡ with_floats s (16 * j) (scaled g (drop (4 * j) xs))
write_four g s t j xs h e =
    let next : 4 * (j + 1) ≡ 4 * j + 4 = omega arith in
    let place : 16 * (j + 1) ≡ 16 * j + 4 * 4 = omega arith in
    rw (e, next, place, ← drop-drop 4 (4 * j) xs) (lanes_first g s (16 * j) 4 (drop (4 * j) xs) (omega (arith, length-drop (4 * j) xs)))

-- one sample more is written
pub write_more : (g : Float) (s t : List ℕ) (i : ℕ) (xs : List Float) → i < length xs → t ≡ with_float s (4 * i) (mul binary32 (get_or xs i nan) g)
    → with_floats t (4 * (i + 1)) (scaled g (drop (i + 1) xs)) ≡ with_floats s (4 * i) (scaled g (drop i xs))
write_more g s t i xs h e =
    let x = mul binary32 (get_or xs i nan) g in
    ap (λ (u : List ℕ). with_floats u (4 * (i + 1)) (scaled g (drop (i + 1) xs))) e
    ∙ ap (λ (j : ℕ). with_floats (with_float s (4 * i) x) j (scaled g (drop (i + 1) xs))) (let e : 4 * (i + 1) ≡ 4 * i + 4 = omega arith in e)
    ∙ ap (λ (n : ℕ). with_floats (with_float s (4 * i) x) (4 * i + 4) (scaled g (drop n xs))) (add-one i)
    ∙ sym (ap (λ (l : List Float). with_floats s (4 * i) (scaled g l)) (drop-cons xs i nan h))

pub write_end : (g : Float) (s : List ℕ) (at i : ℕ) (xs : List Float) → length xs ≤ i → s ≡ with_floats s at (scaled g (drop i xs))
write_end g s at i xs h = sym (ap (λ (l : List Float). with_floats s at (scaled g l)) (drop_of_length-le xs h))
