-- The low-pass cannot run away. `Calming N X Y f` is what holds of a filter of the rate N between two samples, the last two fed being at most X in size and its outputs such as
-- samples of at most Y give: a sample of at most X keeps it (`calming_next`), X ≤ Y, and with it every output is finite and at most 2 Y. `Calm X` is that with one bound for both:
-- a new filter has it (`calming_start`), a sample of size at most X keeps it (`calm_next`, `calm_all`). X is in units, from 2 ^ -100 to 2 ^ 20 (`Range`). Assumes nothing.
use mathlib.Core.Path.{subst}
use mathlib.Core.List.{List, [], ◌∷◌}
use Prim.Native.Nat.{ℕ, ◌*◌, ◌≤◌}
use native.Mathlib.Nat.{le_refl, le_trans, one-mul, mul-le-mul_left}
use native.Mathlib.Omega.{arith}
use lib.Dec.{lit≤}
use lib.IntN.{pos, nat_abs, ◌-ℤ◌}
use lib.Ieee.{Float}
use Rattle.angles.specs.declared.filter.Coefficients.{Coefficients}
use Rattle.ieee.specs.Units.{One, F32, mag}
use Rattle.ieee.proofs.Constants.{zero_f32}
use Rattle.ieee.proofs.Bound.{bounded_by, zero_bounded}
use Rattle.ieee.proofs.NotNegative.{NN}
use Rattle.ieee.proofs.Near.{val, abs_most, bounded_abs, most}
use Rattle.lowpass.specs.Lowpass.{BiquadLowpassState, unfed, output, next, after_all}
use Rattle.lowpass.specs.Bound.{Bounded, All, Range}
use Rattle.lowpass.proofs.Ellipse.{edge, floor, Inside, start, bound, not_outside}
use Rattle.lowpass.proofs.Boxed.{Falls, step, kept}
use Rattle.lowpass.proofs.Passing.{Passing, α-high, A-high}
use Rattle.lowpass.proofs.Errors.{force, small}
use Rattle.lowpass.proofs.Rounded.{steps}

pub record Calming (N X Y : ℕ) (f : BiquadLowpassState) : Type 0 where
  pub known : Passing N f.a1 f.a2 f.b0 f.b1 f.b2
  pub x1_small : Bounded X f.x1
  pub x2_small : Bounded X f.x2
  pub y1_f32 : F32 f.y1
  pub y2_small : Bounded (2 * Y) f.y2
  pub inside : Inside N Y (val f.y1) (val f.y1 -ℤ val f.y2)

pub record Calm (X : ℕ) (f : BiquadLowpassState) : Type 0 where
  pub rate : ℕ
  pub held : Calming rate X X f

-- ---- the bounds
pub record Bounds (X Y : ℕ) : Type 0 where
  pub below : X ≤ Y
  pub low : 8589934592 ≤ Y
  pub high : 32 * Y ≤ most

pub in_range : {X : ℕ} → Range X → Bounds X X
unfolding most
in_range {X} r = record { below = le_refl X; low = le_trans (lit≤ tt) r.low; high = le_trans (mul-le-mul_left 32 r.high) (lit≤ tt) }

-- ---- the last output
pub last_bounded : {N X Y : ℕ} {f : BiquadLowpassState} → Calming N X Y f → Bounded (2 * Y) f.y1
last_bounded c = bounded_abs c.y1_f32 (bound c.inside)

-- ---- the next output, and what the step loses above the floor of a force G
pub record Made (G N : ℕ) (f : BiquadLowpassState) (x : Float) : Type 0 where
  pub f32 : F32 (output f x)
  pub falls : Falls N G (val f.y1) (val f.y1 -ℤ val f.y2) (val (output f x)) (val (output f x) -ℤ val f.y1)

module _ {N X Y : ℕ} {f : BiquadLowpassState} (b : Bounds X Y) (c : Calming N X Y f) {x : Float} (h : Bounded X x) where
  pub made : (G : ℕ) → force X Y ≤ G → Made G N f x
  made G enough =
      let C = c.known in
      let k₁ : nat_abs (val f.y1) ≤ 2 * Y = bound c.inside in
      let k₂ : nat_abs (val f.y2) ≤ 2 * Y = abs_most c.y2_small in
      let s = steps Y (le_trans (lit≤ tt) b.low) b.high f x C (wider h) (wider c.x1_small) (wider c.x2_small) (last_bounded c) c.y2_small in
      record {
        f32 = s.0;
        falls = step N C.α C.A C.k C.box G (val (output f x)) (val f.y1) (val f.y2)
            (le_trans (small N C.α C.A C.β₀ C.β₁ C.β₂ X Y (val x) (val f.x1) (val f.x2) (val f.y1) (val f.y2) (val (output f x))
            (α-high C.box) (A-high C.box) b.low k₁ k₂ s.1 C.rate_high C.gain (abs_most h) (abs_most c.x1_small) (abs_most c.x2_small)) enough);
      }
    where
      wider : {z : Float} → Bounded X z → Bounded Y z
      wider = bounded_by b.below

  -- X being at most Y, the floor lies in the ellipse
  in_ellipse : Inside N Y (val (output f x)) (val (output f x) -ℤ val f.y1)
  in_ellipse =
      let G : ℕ = force 1 1 * Y in
      let floor-in : NN (edge (pos Y) -ℤ floor (pos G)) = subst (λ (Z : ℕ). NN (edge (pos Z) -ℤ floor (pos G))) (one-mul Y) (not_outside 1 (force 1 1) Y tt) in
      kept N Y G c.known.box.rate_low floor-in c.inside (made G (omega (arith, b.below))).falls

  f32_made : F32 (output f x)
  f32_made = (made (force X Y) (le_refl (force X Y))).f32

  calming_bounded : Bounded (2 * Y) (output f x)
  calming_bounded = bounded_abs f32_made (bound in_ellipse)

  pub calming_next : Calming N X Y (next f x)
  calming_next = record { known = c.known; x1_small = h; x2_small = c.x1_small; y1_f32 = f32_made; y2_small = last_bounded c; inside = in_ellipse }

pub calming_all : {N X Y : ℕ} {f : BiquadLowpassState} → Bounds X Y → Calming N X Y f → (xs : List Float) → All (Bounded X) xs → Calming N X Y (after_all f xs)
calming_all b c [] h = c
calming_all {N = N} {X = X} {Y = Y} {f = f} b c (x ∷ xs) h = calming_all {f = next f x} b (calming_next b c h.0) xs h.1

-- a new filter
pub calming_start : (N X : ℕ) (c : Coefficients) → Passing N c.a1 c.a2 c.b0 c.b1 c.b2 → Calming N X X (unfed c)
unfolding mag One
calming_start N X c k =
    record { known = k; x1_small = zero_bounded X; x2_small = zero_bounded X; y1_f32 = zero_f32; y2_small = zero_bounded (2 * X); inside = start N X }

-- ---- with one bound
module _ {X : ℕ} {f : BiquadLowpassState} (r : Range X) (c : Calm X f) where
  pub output_bounded : {x : Float} → Bounded X x → Bounded (2 * X) (output f x)
  output_bounded = calming_bounded (in_range r) c.held

  pub calm_next : {x : Float} → Bounded X x → Calm X (next f x)
  calm_next h = record { rate = c.rate; held = calming_next (in_range r) c.held h }

  pub calm_all : (xs : List Float) → All (Bounded X) xs → Calm X (after_all f xs)
  calm_all xs h = record { rate = c.rate; held = calming_all (in_range r) c.held xs h }
