-- A code read and written again is the same code; a sample written and read differs by at most 2 ^ -23, which is reached at 1.0; both zeros are 0. Assumes nothing.
use mathlib.Core.Path.{◌≡◌, refl, sym, ap, ◌∙◌}
use mathlib.Core.Logic.{inl, inr}
use mathlib.Core.Bool.{Bool, true, false, not, cond}
use Prim.Native.Nat.{ℕ, zero, suc, min, ◌+◌, ◌-◌, ◌*◌, ◌%◌, ◌≤◌, ◌<◌}
use native.Mathlib.Nat.{mod-eq_of_lt, mod-lt, min-eq_left, min-eq_right, min-le_right, le_of_lt, lt_of_le_of_lt, mul-le-mul_right}
use lib.Dec.{T, lit<}
use native.Mathlib.Omega.{arith}
use lib.Ieee.Scale.{finite}
use lib.Ieee.{Float, nan, inf, fin, is_nan, binary32, of_bits, to_bits, div, of_int, round}
use lib.IntN.{pos, negsuc}
use lib.Ieee.Nearest.{closest}
use Rattle.ieee.specs.Units.{One, sign, mag, P, N}
use Rattle.ieee.specs.Bounds.{Bounded, DifferBy}
use Rattle.ieee.specs.Numbers.{0·0, 1·0}
use Rattle.ieee.proofs.Theorems.{Plus, Minus, le_or_lt, mag_is, closest_near, one_P}
use Rattle.pcm24.specs.Codes.{Step, code_24, sample_24, nearest_steps}
use Rattle.pcm24.specs.Refused.{writable}
use Rattle.pcm24.proofs.Steps.{steps_of_one, step_pos, closest_whole, few_steps}
use Rattle.pcm24.proofs.Passes.{unit_bounded}
use Rattle.pcm24.proofs.Exact.{plus_exact, minus_exact}

-- ---- the same code again
plus_size : (x : Float) (k : ℕ) → Plus x k → mag x ≡ k
plus_size x k p = omega (arith, mag_is x, p.up, p.down)

minus_size : (x : Float) (k : ℕ) → Minus x k → mag x ≡ k
minus_size x k p = omega (arith, mag_is x, p.up, p.down)

no_step : (n : ℕ) → 0 ≡ n * Step → n ≡ 0
no_step zero e = refl
no_step (suc n) e = absurd (let k : 1 * Step ≤ suc n * Step = mul-le-mul_right Step (omega arith) in omega (arith, step_pos))

code_plus : (x : Float) (n : ℕ) → n < 8388608 → Plus x (n * Step) → code_24 x ≡ n
code_plus x n h p = go (sign x) refl p.up
  where
    near : nearest_steps x ≡ n
    near = ap (λ (m : ℕ). closest m Step) (plus_size x (n * Step) p) ∙ closest_whole n Step step_pos

    go : (s : Bool) → sign x ≡ s → cond s 0 (mag x) ≡ n * Step → cond s ((16777216 - nearest_steps x) % 16777216) (min (nearest_steps x) 8388607) ≡ n
    go false e u = rw near (min-eq_left (omega arith))
    go true e u = let z : n ≡ 0 = no_step n u in rw near (rw z refl)

code_minus : (x : Float) (k : ℕ) → 0 < k → k ≤ 8388608 → Minus x (k * Step) → code_24 x ≡ 16777216 - k
code_minus x k l h p = go (sign x) p.down
  where
    near : nearest_steps x ≡ k
    near = ap (λ (m : ℕ). closest m Step) (minus_size x (k * Step) p) ∙ closest_whole k Step step_pos

    go : (s : Bool) → cond s (mag x) 0 ≡ k * Step → cond s ((16777216 - nearest_steps x) % 16777216) (min (nearest_steps x) 8388607) ≡ 16777216 - k
    go true u = rw near (mod-eq_of_lt (omega arith))
    go false u = absurd (let z : k ≡ 0 = no_step k u in omega arith)

pub code_again : (n : ℕ) → n < 16777216 → code_24 (sample_24 n) ≡ n
code_again n h = elim (le_or_lt 8388608 n) [
  | inr l ↦ code_plus (sample_24 n) n l (plus_exact n l)
  | inl l ↦ code_minus (sample_24 n) (16777216 - n) (omega arith) (omega arith) (minus_exact n (16777216 - n) l (omega arith) (omega arith)) ∙ omega arith
]

-- what is read is from -1 to 1
pub sample_bounded : (n : ℕ) → n < 16777216 → Bounded One (sample_24 n)
sample_bounded n h = elim (le_or_lt 8388608 n) [
  | inr l ↦
      let p = plus_exact n l in
      let k : n * Step ≤ 8388608 * Step = mul-le-mul_right Step (omega arith) in
      record { f32 = p.f32; most = omega (arith, plus_size (sample_24 n) (n * Step) p, steps_of_one) }
  | inl l ↦
      let p = minus_exact n (16777216 - n) l (omega arith) (omega arith) in
      let k : (16777216 - n) * Step ≤ 8388608 * Step = mul-le-mul_right Step (omega arith) in
      record { f32 = p.f32; most = omega (arith, minus_size (sample_24 n) ((16777216 - n) * Step) p, steps_of_one) }
]

finite_number : (x : Float) → T (finite x) → T (not (is_nan x))
unfolding is_nan
finite_number nan f = absurd f
finite_number (inf s) f = absurd f
finite_number (fin s m e) f = tt

pub sample_number : (n : ℕ) → n < 16777216 → T (not (is_nan (sample_24 n)))
sample_number n h = finite_number (sample_24 n) (sample_bounded n h).f32.fine

-- ---- a sample again, but for a step
half_off : (q m s : ℕ) → DifferBy (2 * (q * s)) (2 * m) s → DifferBy (q * s) m s
half_off q m s d = record { above = omega (arith, d.above); below = omega (arith, d.below) }

one_less : (m q : ℕ) → q ≡ 8388608 → DifferBy (q * Step) m Step → m ≤ One → DifferBy (8388607 * Step) m Step
one_less m q e d h = let k : q * Step ≡ 8388608 * Step = ap (λ (n : ℕ). n * Step) e in record { above = omega (arith, d.above, k, step_pos); below = omega (arith, h, steps_of_one) }

-- the size that is written, with its limit
plus_near : (m q : ℕ) → DifferBy (q * Step) m Step → q ≤ 8388608 → m ≤ One → DifferBy (min q 8388607 * Step) m Step
plus_near m q d h l = elim (le_or_lt q 8388607) [
  | inl a ↦ rw (min-eq_left a) d
  | inr a ↦ rw (min-eq_right (le_of_lt a)) (one_less m q (omega arith) d l)
]

-- 2 ^ -23 in units
pub step_is : 8388608 * Step ≡ One
step_is = sym steps_of_one

near_size : (x : Float) → Bounded One x → DifferBy (P (sample_24 (code_24 x)) + N x) (P x + N (sample_24 (code_24 x))) Step
near_size x b = go (sign x) refl
  where
    off : DifferBy (nearest_steps x * Step) (mag x) Step
    off = half_off (nearest_steps x) (mag x) Step (closest_near (mag x) Step step_pos)

    few : nearest_steps x ≤ 8388608
    few = few_steps (mag x) b.most

    up : (n : ℕ) (v : ℕ) → n < 8388608 → n * Step ≡ v → DifferBy v (mag x) Step → P x ≡ mag x → N x ≡ 0 → DifferBy (P (sample_24 n) + N x) (P x + N (sample_24 n)) Step
    up n v h e d p z = let k = plus_exact n h in record { above = omega (arith, k.up, k.down, d.above); below = omega (arith, k.up, k.down, d.below) }

    down : (n k : ℕ) → n < 16777216 → n ≡ (16777216 - k) % 16777216 → k ≤ 8388608 → DifferBy (k * Step) (mag x) Step → P x ≡ 0 → N x ≡ mag x → DifferBy (P (sample_24 n) + N x) (P x + N (sample_24 n)) Step
    down n zero h e l d z p = let w : n ≡ 0 = e in let k = plus_exact n (omega arith) in let u : n * Step ≡ 0 = rw w (omega arith) in record { above = omega (arith, k.up, k.down, d.above); below = omega (arith, k.up, k.down, d.below, p, z) }
    down n (suc j) h e l d z p =
        let w : n ≡ 16777216 - suc j = e ∙ mod-eq_of_lt (omega arith) in
        let k = minus_exact n (suc j) (omega arith) (omega arith) (omega arith) in
        record { above = omega (arith, k.up, k.down, d.below, p, z); below = omega (arith, k.up, k.down, d.above, p, z) }

    go : (s : Bool) → sign x ≡ s → DifferBy (P (sample_24 (code_24 x)) + N x) (P x + N (sample_24 (code_24 x))) Step
    go false e =
        let c : code_24 x ≡ min (nearest_steps x) 8388607 = rw e refl in
        let l : code_24 x < 8388608 = rw c (lt_of_le_of_lt (min-le_right (nearest_steps x) 8388607) (lit< tt)) in
        up (code_24 x) (min (nearest_steps x) 8388607 * Step) l (ap (λ (n : ℕ). n * Step) c) (plus_near (mag x) (nearest_steps x) off few b.most) (rw e refl) (rw e refl)
    go true e =
        let c : code_24 x ≡ (16777216 - nearest_steps x) % 16777216 = rw e refl in
        down (code_24 x) (nearest_steps x) (rw c (mod-lt (16777216 - nearest_steps x) (lit< tt))) c few off (rw e refl) (rw e refl)

-- "writing and then reading differs from the sample by at most 2^-23", of each sample that 21 lets pass
pub near : (w : ℕ) → let x = of_bits binary32 w in writable x ≡ true → DifferBy (P (sample_24 (code_24 x)) + N x) (P x + N (sample_24 (code_24 x))) Step
near w e = near_size (of_bits binary32 w) (unit_bounded w e)

-- ---- "Positive and negative zero both become 0"
pub plus_zero : code_24 0·0 ≡ 0
unfolding Step mag One
plus_zero = refl

pub minus_zero : code_24 (fin true 0 (pos 0)) ≡ 0
unfolding Step mag One
minus_zero = refl

-- ---- examples: ties go to the even number, 1.0 is cut off, -1.0 is not
pub half_step : code_24 (fin false 1 (negsuc 23)) ≡ 0
unfolding Step mag One
half_step = refl

pub three_halves : code_24 (fin false 3 (negsuc 23)) ≡ 2
unfolding Step mag One
three_halves = refl

pub five_halves_below : code_24 (fin true 5 (negsuc 23)) ≡ 16777214
unfolding Step mag One
five_halves_below = refl

pub quarter : code_24 (fin false 1 (negsuc 1)) ≡ 2097152
unfolding Step mag One
quarter = refl

pub highest : code_24 1·0 ≡ 8388607
unfolding Step mag One
highest = refl

pub lowest : code_24 (fin true 1 (pos 0)) ≡ 8388608
unfolding Step mag One
lowest = refl

-- at 1.0 it differs by as much
pub reached : P 1·0 ≡ P (sample_24 (code_24 1·0)) + Step
reached = let p = plus_exact 8388607 (lit< tt) in let u : P (sample_24 (code_24 1·0)) ≡ 8388607 * Step = ap (λ (n : ℕ). P (sample_24 n)) highest ∙ p.up in omega (arith, one_P, steps_of_one, u)

-- ---- examples of reading: the words of the largest, of -1.0, of the step below 0, and of 0, which is +0.0
pub read_highest : to_bits binary32 (sample_24 8388607) ≡ 0x3f7f_fffe
unfolding div of_int round to_bits
read_highest = refl

pub read_lowest : to_bits binary32 (sample_24 8388608) ≡ 0xbf80_0000
unfolding div of_int round to_bits
read_lowest = refl

pub read_step_below : to_bits binary32 (sample_24 16777215) ≡ 0xb400_0000
unfolding div of_int round to_bits
read_step_below = refl

pub read_zero : to_bits binary32 (sample_24 0) ≡ 0
unfolding div of_int round to_bits
read_zero = refl
