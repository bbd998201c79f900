-- A filter that remembers only +0.0 answers +0.0 with +0.0, and remembers only +0.0 then. Assumes nothing.
use mathlib.Core.Path.{◌≡◌, refl, ap, ap₂, ◌∙◌}
use mathlib.Core.Bool.{Bool, true, false, not, ◌&&◌, cond}
use Prim.Native.Nat.{ℕ, zero, suc, ◌+◌, ◌*◌, ◌≤◌, ◌<◌}
use native.Mathlib.Nat.{le_trans, mul-le-mul, mul-le-mul_left, mul-pos}
use native.Mathlib.Omega.{arith}
use lib.IntN.{pos, neg_ℤ, ◌-ℤ◌, ◌*ℤ◌}
use lib.Ieee.{Float, fin, binary32, neg, add, sub, mul}
use Rattle.ieee.specs.Units.{One, sign, mag}
use Rattle.ieee.proofs.Value.{one_pos}
use Rattle.ieee.proofs.Near.{Ratio}
use Rattle.ieee.proofs.Exact.{times_zero, add_zeros}
use Rattle.lowpass.specs.Lowpass.{BiquadLowpassState, 0·0, output, next}
use Rattle.lowpass.proofs.Boxed.{InBox}
use Rattle.lowpass.proofs.Calm.{Calm}

pub record Still (f : BiquadLowpassState) : Type 0 where
  pub x1 : f.x1 ≡ 0·0
  pub x2 : f.x2 ≡ 0·0
  pub y1 : f.y1 ≡ 0·0
  pub y2 : f.y2 ≡ 0·0

-- ---- a1 is below 0

some_A : {rate α A k : ℕ} → InBox rate α A k → 0 < A
some_A {rate} {α} {A} {k} b =
    let s = b.stiffness in
    let l : k * (7540 * 7540) ≤ 9728878046085 = le_trans (mul-le-mul_left k (mul-le-mul b.rate_low b.rate_low)) b.stiff_high in
    omega arith

below : (n k : ℕ) → 0 < n → pos k ≡ neg_ℤ (pos n) → ⊥
below zero k h e = omega arith
below (suc n) k h e = let z : ◌≡◌ {A = ℕ} 0 1 = cc in omega arith

minus_sign : (x : Float) (A : ℕ) → 0 < A → Ratio x (neg_ℤ (pos A)) 16777216 → sign x ≡ true
minus_sign x (suc A) h r = go (sign x) refl r.is
  where
    go : (s : Bool) → sign x ≡ s → pos 16777216 *ℤ (pos (cond s 0 (mag x)) -ℤ pos (cond s (mag x) 0)) ≡ neg_ℤ (pos (suc A)) *ℤ pos One → sign x ≡ true
    go true e q = e
    go false e q = absurd (below (suc A * One) (16777216 * (mag x + 0)) (mul-pos h one_pos) q)
minus_sign x zero h r = absurd (omega arith)

-- ---- sums of zeros

minus_zeros : (s t : Bool) → sub binary32 (fin s 0 (pos 0)) (fin t 0 (pos 0)) ≡ fin (s && not t) 0 (pos 0)
unfolding sub neg
minus_zeros s t = add_zeros s (not t)

zero_sum : (s t : Bool) → fin ((s && false) && not t) 0 (pos 0) ≡ 0·0
zero_sum true t = refl
zero_sum false t = refl

module _ {X : ℕ} {f : BiquadLowpassState} (c : Calm X f) (s : Still f) where
  pub still_output : output f 0·0 ≡ 0·0
  still_output =
      let k = c.held.known in
      let z : Bool → Float = λ b. fin b 0 (pos 0) in
      let p2 : mul binary32 f.b2 f.x2 ≡ z (sign f.b2) = ap (mul binary32 f.b2) s.x2 ∙ times_zero f.b2 k.b2_is.f32 in
      let p1 : mul binary32 f.b1 f.x1 ≡ z (sign f.b1) = ap (mul binary32 f.b1) s.x1 ∙ times_zero f.b1 k.b1_is.f32 in
      let p0 = times_zero f.b0 k.b0_is.f32 in
      let q1 : mul binary32 f.a1 f.y1 ≡ z true =
      ap (mul binary32 f.a1) s.y1 ∙ times_zero f.a1 k.a1_is.f32 ∙ ap z (minus_sign f.a1 k.A (some_A k.box) k.a1_is) in
      let q2 : mul binary32 f.a2 f.y2 ≡ z (sign f.a2) = ap (mul binary32 f.a2) s.y2 ∙ times_zero f.a2 k.a2_is.f32 in
      let b21 = ap₂ (add binary32) p2 p1 ∙ add_zeros (sign f.b2) (sign f.b1) in
      let b = ap₂ (add binary32) b21 p0 ∙ add_zeros (sign f.b2 && sign f.b1) (sign f.b0) in
      let a1 = ap₂ (sub binary32) b q1 ∙ minus_zeros ((sign f.b2 && sign f.b1) && sign f.b0) true in
      ap₂ (sub binary32) a1 q2 ∙ minus_zeros (((sign f.b2 && sign f.b1) && sign f.b0) && false) (sign f.a2)
      ∙ zero_sum ((sign f.b2 && sign f.b1) && sign f.b0) (sign f.a2)

  pub still_next : Still (next f 0·0)
  still_next = record { x1 = refl; x2 = s.x1; y1 = still_output; y2 = s.y1 }
