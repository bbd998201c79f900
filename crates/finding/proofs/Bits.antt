-- The bits of a mask are the channels for which it was made. Assumes nothing.
use mathlib.Core.Path.{◌≡◌, refl, sym, ap, ◌∙◌}
use mathlib.Core.Bool.{Bool, true, false, cond}
use Prim.Native.Nat.{ℕ, zero, suc, ◌+◌, ◌*◌, ◌/◌, ◌%◌, ◌^◌, ◌<◌}
use native.Mathlib.Nat.{div-div-eq-div-mul, pow-succ', two-pow-succ, div-one}
use native.Mathlib.Omega.{arith}
use Rattle.finding.specs.Search.{mask_from}

-- all bits moved up by one place
moved : (f : ℕ → Bool) (n c b : ℕ) → mask_from f n c (2 * b) ≡ 2 * mask_from f n c b
unfolding mask_from
moved f zero c b = refl
moved f (suc n) c b = joined (f c) (mask_from f n (suc c) (2 * (2 * b))) (mask_from f n (suc c) (2 * b)) (moved f n (suc c) (2 * b))
  where
    joined : (t : Bool) (x y : ℕ) → x ≡ 2 * y → cond t (2 * b) 0 + x ≡ 2 * (cond t b 0 + y)
    joined true x y e = omega (arith, e)
    joined false x y e = omega (arith, e)

-- the first channel's bit, and the others'
abbrev low : Bool → ℕ
low t = cond t 1 0

parts : (f : ℕ → Bool) (n c : ℕ) → mask_from f (suc n) c 1 ≡ low (f c) + 2 * mask_from f n (suc c) 1
unfolding mask_from
parts f n c = ap (λ (k : ℕ). low (f c) + k) (moved f n (suc c) 1)

pub less : (f : ℕ → Bool) (n c : ℕ) → mask_from f n c 1 < 2 ^ n
unfolding mask_from
less f zero c = omega arith
less f (suc n) c = doubled (f c) (mask_from f n (suc c) 1) (parts f n c) (less f n (suc c)) (two-pow-succ n)
  where
    doubled : (t : Bool) (r : ℕ) {m u v : ℕ} → m ≡ low t + 2 * r → r < u → v ≡ u + u → m < v
    doubled true r e i j = omega (arith, e, i, j)
    doubled false r e i j = omega (arith, e, i, j)

halved : (t : Bool) (r : ℕ) → (low t + 2 * r) / 2 ≡ r
halved true r = omega arith
halved false r = omega arith

odd : (t : Bool) (r : ℕ) → (low t + 2 * r) % 2 ≡ low t
odd true r = omega arith
odd false r = omega arith

pub bit_is : (f : ℕ → Bool) (n c d : ℕ) → d < n → mask_from f n c 1 / 2 ^ d % 2 ≡ cond (f (c + d)) 1 0
bit_is f zero c d h = absurd (omega (arith, h))
bit_is f (suc n) c zero h =
    ap (λ (k : ℕ). k % 2) (div-one (mask_from f (suc n) c 1)) ∙ ap (λ (k : ℕ). k % 2) (parts f n c) ∙ odd (f c) (mask_from f n (suc c) 1)
    ∙ ap (λ (k : ℕ). low (f k)) (let e : c ≡ c + 0 = omega arith in e)
bit_is f (suc n) c (suc d) h =
    ap (λ (k : ℕ). mask_from f (suc n) c 1 / k % 2) (pow-succ' 2 d) ∙ ap (λ (k : ℕ). k % 2) (sym (div-div-eq-div-mul (mask_from f (suc n) c 1) 2 (2 ^ d)))
    ∙ ap (λ (k : ℕ). k / 2 / 2 ^ d % 2) (parts f n c) ∙ ap (λ (k : ℕ). k / 2 ^ d % 2) (halved (f c) (mask_from f n (suc c) 1))
    ∙ bit_is f n (suc c) d (let i : d < n = omega (arith, h) in i) ∙ ap (λ (k : ℕ). low (f k)) (let e : suc c + d ≡ c + suc d = omega arith in e)
