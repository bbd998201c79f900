-- The filter's operations in f32, one after another: each result is finite, with its size as a multiple of X and its error. Assumes nothing.
use mathlib.Core.Path.{◌≡◌, ◌∙◌, ap, sym}
use Prim.Native.Nat.{ℕ, suc, ◌+◌, ◌*◌, ◌≤◌, ◌<◌}
use native.Mathlib.Nat.{le_refl, le_trans, le_of_eq, mul-le-mul, mul-le-mul_right, mul-mul-mul_comm, mul_assoc, one-mul, add-le-add, add-mul, mul_comm}
use native.Mathlib.Omega.{arith}
use lib.Dec.{lit<, lit≤}
use lib.IntN.{ℤ, pos, nat_abs, ◌+ℤ◌, ◌-ℤ◌, ◌*ℤ◌}
use lib.Ieee.{Float, binary32, add, sub, mul}
use Rattle.ieee.specs.Units.{F32}
use Rattle.ieee.specs.Bounds.{Bounded}
use Rattle.ieee.proofs.Bound.{bounded_by}
use Rattle.ieee.proofs.NotNegative.{abs_add, abs_minus, abs_times, abs_neg}
use Rattle.ieee.proofs.Near.{val, abs_most, bounded_abs, Near, Sum, Ratio, most, add_near, sub_near, mul_near, sum_size, near_size}
use Rattle.lowpass.specs.Lowpass.{BiquadLowpassState, output}
use Rattle.lowpass.proofs.Passing.{Passing, α-high, A-high, β-high}
use Rattle.lowpass.proofs.Errors.{Steps}

module _ (X : ℕ) (some : 1 ≤ X) (high : 32 * X ≤ most) where
  in_range : {n : ℕ} (w : ℕ) → n ≤ w * X → w ≤ 32 → n ≤ most
  in_range w h l = le_trans h (le_trans (mul-le-mul_right X l) high)

  product : {x y : Float} {a : ℤ} {c : ℕ} (w u : ℕ) → 0 < c → Ratio x a c → nat_abs a ≤ w * c → Bounded (u * X) y → 1 ≤ w * u → w * u ≤ 32 →
      Bounded (2 * (w * u) * X) (mul binary32 x y) × Near (val (mul binary32 x y)) (a *ℤ val y) c
  product {x} {y} {a} {c} w u C q h s l m =
      let z = mul binary32 x y in
      let n = w * u * X in
      let k : nat_abs (a *ℤ val y) ≤ n * c = le_trans (le_of_eq (abs_times a (val y))) (le_trans (mul-le-mul h (abs_most s)) (le_of_eq (regroup w c u X))) in
      let one : 1 ≤ n = le_trans some (le_trans (le_of_eq (sym (one-mul X))) (mul-le-mul_right X l)) in
      let r : F32 z × Near (val z) (a *ℤ val y) c = mul_near C q s.f32 (le_trans k (mul-le-mul_right c (in_range (w * u) (le_refl n) m))) in
      (bounded_abs r.0 (le_trans (near_size (val z) (a *ℤ val y) c n C r.1 k one) (le_of_eq (sym (mul_assoc 2 (w * u) X)))), r.1)
    where
      regroup : (w c u X : ℕ) → w * c * (u * X) ≡ w * u * X * c
      regroup w c u X = mul-mul-mul_comm w c u X ∙ ap (λ (n : ℕ). w * u * n) (mul_comm c X) ∙ sym (mul_assoc (w * u) X c)

  -- a sum of sizes m X and n X
  total : {z : Float} {s : ℤ} (m n : ℕ) → F32 z × Sum (val z) s → nat_abs s ≤ (m + n) * X → m + n ≤ 32 → Bounded (suc (m + n) * X) z
  total {z} {s} m n r h l = bounded_abs r.0 (le_trans (sum_size (val z) s (m + n) X r.1 h (le_trans l (lit≤ tt))) (grow (m + n)))
    where
      grow : (k : ℕ) → k * X + X ≤ suc k * X
      grow k = omega arith

  together : {p q k : ℕ} (m n : ℕ) → k ≤ p + q → p ≤ m * X → q ≤ n * X → k ≤ (m + n) * X
  together m n h i j = le_trans h (le_trans (add-le-add i j) (le_of_eq (sym (add-mul m n X))))

  plus : {x y : Float} (m n : ℕ) → Bounded (m * X) x → Bounded (n * X) y → m + n ≤ 32 → Bounded (suc (m + n) * X) (add binary32 x y) × Sum (val (add binary32 x y)) (val x +ℤ val y)
  plus {x} {y} m n s t l =
      let h : nat_abs (val x +ℤ val y) ≤ (m + n) * X = together m n (abs_add (val x) (val y)) (abs_most s) (abs_most t) in
      let r = add_near s.f32 t.f32 (in_range (m + n) h l) in
      (total m n r h l, r.1)

  minus : {x y : Float} (m n : ℕ) → Bounded (m * X) x → Bounded (n * X) y → m + n ≤ 32
      → Bounded (suc (m + n) * X) (sub binary32 x y) × Sum (val (sub binary32 x y)) (val x -ℤ val y)
  minus {x} {y} m n s t l =
      let h : nat_abs (val x -ℤ val y) ≤ (m + n) * X = together m n (abs_minus (val x) (val y)) (abs_most s) (abs_most t) in
      let r = sub_near s.f32 t.f32 (in_range (m + n) h l) in
      (total m n r h l, r.1)

  -- the product of a sample and b0, b1 or b2
  fed : {b x : Float} {β : ℕ} → Ratio b (pos β) 281474976710656 → β ≤ 281474976710656 → Bounded X x
      → Bounded (2 * X) (mul binary32 b x) × Near (val (mul binary32 b x)) (pos β *ℤ val x) 281474976710656
  fed q h s = product 1 1 (lit< tt) q (le_trans h (lit≤ tt)) (bounded_by (le_of_eq (sym (one-mul X))) s) (lit≤ tt) (lit≤ tt)

  -- the whole step
  pub steps : {rate : ℕ} (f : BiquadLowpassState) (x : Float) (C : Passing rate f.a1 f.a2 f.b0 f.b1 f.b2) →
      Bounded X x → Bounded X f.x1 → Bounded X f.x2 → Bounded (2 * X) f.y1 → Bounded (2 * X) f.y2 →
      F32 (output f x) × Steps C.α C.A C.β₀ C.β₁ C.β₂ (val x) (val f.x1) (val f.x2) (val f.y1) (val f.y2) (val (output f x))
  steps f x C hx hx1 hx2 hy1 hy2 =
      let most-β : (β : ℕ) → β ≤ C.β₀ + C.β₁ + C.β₂ → β ≤ 281474976710656 = λ β h. β-high C.box β (C.β₀ + C.β₁ + C.β₂) h C.gain in
      let P₂ = fed C.b2_is (most-β C.β₂ (omega arith)) hx2 in
      let P₁ = fed C.b1_is (most-β C.β₁ (omega arith)) hx1 in
      let P₀ = fed C.b0_is (most-β C.β₀ (omega arith)) hx in
      let Q₁ = product 2 2 (lit< tt) C.a1_is (le_trans (le_of_eq (abs_neg (pos C.A))) (A-high C.box)) hy1 (lit≤ tt) (lit≤ tt) in
      let Q₂ = product 1 2 (lit< tt) C.a2_is (α-high C.box) hy2 (lit≤ tt) (lit≤ tt) in
      let S₁ = plus 2 2 P₂.0 P₁.0 (lit≤ tt) in
      let S₂ = plus 5 2 S₁.0 P₀.0 (lit≤ tt) in
      let S₃ = minus 8 8 S₂.0 Q₁.0 (lit≤ tt) in
      let S = minus 17 4 S₃.0 Q₂.0 (lit≤ tt) in (
        S.0.f32,
        record {
          P₀ = _;
          P₁ = _;
          P₂ = _;
          Q₁ = _;
          Q₂ = _;
          S₁ = _;
          S₂ = _;
          S₃ = _;
          p₀ = P₀.1;
          p₁ = P₁.1;
          p₂ = P₂.1;
          q₁ = Q₁.1;
          q₂ = Q₂.1;
          s₁ = S₁.1;
          s₂ = S₂.1;
          s₃ = S₃.1;
          s = S.1;
        },
      )
