-- "Reading such bytes gives f32 values whole number / 8,388,608, exactly": in units, so many steps up or down; and writing it gives the same code. Assumes nothing.
use mathlib.Core.Path.{◌≡◌, refl, sym, ap, subst, ◌∙◌}
use mathlib.Core.Bool.{Bool, true, cond}
use Prim.Native.Nat.{ℕ, zero, suc, ◌+◌, ◌-◌, ◌*◌, ◌≤◌, ◌<◌}
use native.Mathlib.Nat.{lt_of_le_of_lt, mul-one, mul-le-mul_left}
use native.Mathlib.Omega.{arith}
use borrow.Author.Tests.{lt-ltb, le-ltb}
use lib.Dec.{lit<}
use lib.IntN.{pos, negsuc}
use lib.Ieee.{Float, binary32, div, of_int, round}
use Rattle.ieee.specs.Units.{One, Top, mag, P, N}
use Rattle.ieee.specs.Nearest.{OnGrid}
use Rattle.ieee.proofs.Theorems.{Plus, Minus, Gives, Is, exactly, div_plus, div_rounds, plus_of, whole_is, whole_grid, whole_less, grid_at, rnd, rnd_exact, rnd_zero, rounded, one_pos, top_pos}
use Rattle.pcm24.specs.Codes.{Step, 8388608·0, sample_24}
use Rattle.pcm24.proofs.Steps.{steps_of_one}
use Rattle.pcm24.proofs.Nearest.{scale_plus, scale_is}

divisor : Plus 8388608·0 (8388608 * One)
divisor = subst (λ (x : Float). Plus x (8388608 * One)) scale_is scale_plus

step_grid : (k : ℕ) → k ≤ 16777216 → OnGrid (k * Step)
unfolding Step
step_grid k h = grid_at k 126 h

step_less : (k : ℕ) → k ≤ 16777216 → k * Step < Top
step_less k h = lt_of_le_of_lt (mul-le-mul_left k (let e : Step ≤ One = omega (arith, steps_of_one) in e)) (whole_less k h)

-- the quotient is k steps, whole units of 2 ^ -149
quotient : (k : ℕ) → k ≤ 16777216 → Gives (k * One * One) (8388608 * One) (k * Step)
quotient k h =
    let e : k * One * One ≡ k * Step * (8388608 * One) = rw (ap (λ (o : ℕ). k * o * One) steps_of_one) (let p : k * (8388608 * Step) * One ≡ k * Step * (8388608 * One) = omega arith in p) in
    rw e (exactly (step_grid k h) (step_less k h) (8388608 * One) (omega (arith, one_pos)))

-- ---- from 0 on
pub plus_exact : (n : ℕ) → n < 8388608 → Plus (sample_24 n) (n * Step)
plus_exact n h =
    let d : Plus (div binary32 (of_int binary32 (pos n)) 8388608·0) (n * Step) = div_plus (plus_of (whole_is n (omega arith))) divisor (omega (arith, one_pos)) (quotient n (omega arith)) in
    rw (lt-ltb n 8388608 h) d

-- ---- below 0
minus_whole : (m : ℕ) → m < 8388608 → Is (of_int binary32 (negsuc m)) true (suc m * One)
unfolding of_int
minus_whole m h =
    let r : rnd (suc m * One) 1 ≡ suc m * One = ap (λ (k : ℕ). rnd k 1) (sym (mul-one (suc m * One))) ∙ rnd_exact (whole_grid (suc m) (omega arith)) 1 (lit< tt) in
    subst (Is (round binary32 true (suc m) 1) true) r
    (rounded true (suc m) 1 (suc m * One) 1 (lit< tt) (lit< tt) refl (subst (λ (k : ℕ). k < Top) (sym r) (whole_less (suc m) (omega arith))))

minus_of : {x : Float} {k : ℕ} → Is x true k → Minus x k
minus_of {x} {k} i = record { f32 = i.f32; up = ap (λ (s : Bool). cond s 0 (mag x)) i.signed; down = ap (λ (s : Bool). cond s (mag x) 0) i.signed ∙ i.size }

div_minus : {x y : Float} {a b k : ℕ} → Minus x a → Plus y b → 0 < b → Gives (a * One) b k → Minus (div binary32 x y) k
div_minus {x} {y} {a} {b} {k} p q B g =
    let B' : 0 < P y = subst (λ (i : ℕ). 0 < i) (sym q.up) B in
    let none : P x * One - N x * One ≡ 0 = rw p.up (omega arith) in
    let some : N x * One - P x * One ≡ a * One = rw (p.up, p.down) (omega arith) in
    let up : rnd (P x * One - N x * One) (P y) ≡ 0 = ap (λ (n : ℕ). rnd n (P y)) none ∙ rnd_zero (P y) B' in
    let down : rnd (N x * One - P x * One) (P y) ≡ k = ap (λ (n : ℕ). rnd n (P y)) some ∙ ap (rnd (a * One)) q.up ∙ g.is in
    let r = div_rounds x y p.f32 q.f32 B' (record { high = subst (λ (n : ℕ). n < Top) (sym up) top_pos; deep = subst (λ (n : ℕ). n < Top) (sym down) g.less }) in
    record { f32 = r.f32; up = r.up ∙ up; down = r.down ∙ down }

pub minus_exact : (n k : ℕ) → 8388608 ≤ n → n + k ≡ 16777216 → 0 < k → Minus (sample_24 n) (k * Step)
minus_exact n zero l e h = absurd (omega arith)
minus_exact n (suc m) l e h =
    let d : Minus (div binary32 (of_int binary32 (negsuc m)) 8388608·0) (suc m * Step) = div_minus (minus_of (minus_whole m (omega arith))) divisor (omega (arith, one_pos)) (quotient (suc m) (omega arith)) in
    let w : 16777216 - n ≡ suc m = omega arith in
    rw (le-ltb n 8388608 l, w) d
