-- The bits of samples, taken by vectors: a sample that differs from itself is a NaN, and gets the pattern that every NaN is written as. Assumes nothing.
use mathlib.Core.Path.{◌≡◌, refl, sym, ap, ap₂, subst}
use mathlib.Core.Bool.{Bool, true, false, cond, not}
use mathlib.Core.List.{List, [], ◌∷◌, map}
use Prim.Native.Nat.{ℕ, ◌-◌, ◌^◌}
use lib.Dec.{T}
use lib.ListN.{length, replicate}
use lib.Lanes.{zip2, sel_l, top, Each1}
use lib.Ieee.{Float, nan, inf, fin, binary32, eq, ne, is_nan, of_bits, to_bits}
use lib.Ieee.Compare.{differs_from_itself}
use mir.Syntax.{w32}
use mir.Val.{bits, hbits}
use Rattle.std.proofs.lemmas.Simd.{tops_compared}

-- whether each sample equals itself, as a selection reads it
abbrev pub plain : List Float → List Bool
plain xs = map (top (hbits w32)) (zip2 (λ a b. cond (eq a b) (2 ^ bits w32 - 1) 0) xs xs)

-- n samples with +0 for each NaN
abbrev pub numbers : ℕ → List Float → List Float
numbers n xs = sel_l (plain xs) xs (replicate n (of_bits binary32 0))

-- their bits, with the pattern of every NaN for each NaN
abbrev pub patterns : ℕ → List Float → List ℕ
patterns n xs = sel_l (plain xs) (map (to_bits binary32) (numbers n xs)) (replicate n 0x7fc0_0000)

-- ---- one sample, by whether it equals itself

number_is : (x : Float) (b : Bool) → eq x x ≡ b → T (not (is_nan (cond b x (of_bits binary32 0))))
unfolding eq is_nan of_bits
number_is x false e = tt
number_is nan true e = absurd (subst T (sym e) tt)
number_is (inf s) true e = tt
number_is (fin s m d) true e = tt

pattern_is : (x : Float) (b : Bool) → eq x x ≡ b → cond b (to_bits binary32 (cond b x (of_bits binary32 0))) 0x7fc0_0000 ≡ to_bits binary32 x
unfolding ne to_bits
pattern_is x true e = refl
pattern_is x false e = ap (to_bits binary32) (sym (differs_from_itself x (subst (λ (b : Bool). T (not b)) (sym e) tt)))

-- ---- all of them

all_numbers : (xs : List Float) → Each1 (λ x. T (not (is_nan x))) (sel_l (zip2 eq xs xs) xs (replicate (length xs) (of_bits binary32 0)))
all_numbers [] = tt
all_numbers (x ∷ xs) = (number_is x (eq x x) refl, all_numbers xs)

-- which is what `to_bits` asks
pub numbers_are : (n : ℕ) (xs : List Float) → length xs ≡ n → Each1 (λ x. T (not (is_nan x))) (numbers n xs)
numbers_are n xs e = rw (tops_compared w32 eq xs xs, ← e) (all_numbers xs)

all_patterns : (xs : List Float) → let ms = zip2 eq xs xs in
    sel_l ms (map (to_bits binary32) (sel_l ms xs (replicate (length xs) (of_bits binary32 0)))) (replicate (length xs) 0x7fc0_0000) ≡ map (to_bits binary32) xs
all_patterns [] = refl
all_patterns (x ∷ xs) = ap₂ (λ (w : ℕ) (ws : List ℕ). w ∷ ws) (pattern_is x (eq x x) refl) (all_patterns xs)

-- which are the bits that `words::put_f32` writes
pub patterns_are : (n : ℕ) (xs : List Float) → length xs ≡ n → patterns n xs ≡ map (to_bits binary32) xs
patterns_are n xs e = rw (tops_compared w32 eq xs xs, ← e) (all_patterns xs)
