-- How soon the level halves: from the ellipse of 2 Z to that of Z in N / 64 + 1 samples of at most X ≤ Z. There are nine stages. Within a stage the floor is that of the ellipse
-- where it starts, and in N / 680 samples the height above the floor comes down to 850 / 1227 (`lands`, with 301.6 / 680 = 377 / 850). The ellipses are multiples of e, a
-- ten-thousandth of Z rounded up; that each stage ends in the next one's ellipse is a computed test on the multiples. Assumes nothing.
use mathlib.Core.Path.{◌≡◌}
use mathlib.Core.Bool.{Bool}
use mathlib.Core.List.{List, [], ◌∷◌}
use Prim.Native.Nat.{ℕ, zero, suc, ◌+◌, ◌*◌, ◌/◌, ◌≤◌, ◌<◌}
use native.Mathlib.Nat.{le_trans, mul-le-mul_left, mul-le-mul_right}
use native.Mathlib.Omega.{arith}
use lib.Dec.{leb, leb→le, lit≤}
use lib.IntN.{pos, ◌-ℤ◌}
use lib.Signed.{non_neg}
use lib.Ieee.{Float}
use Rattle.ieee.proofs.Bound.{bounded_by}
use Rattle.ieee.proofs.Near.{val, bounded_abs, most}
use Rattle.ieee.proofs.NotNegative.{NN}
use Rattle.lowpass.specs.Lowpass.{BiquadLowpassState, next}
use Rattle.lowpass.specs.Bound.{Bounded}
use Rattle.lowpass.specs.Forgets.{halving}
use Rattle.lowpass.proofs.Tests.{Every, parts}
use Rattle.lowpass.proofs.Ellipse.{level, edge, floor, Inside, bound, wider, not_outside, short, not_short}
use Rattle.lowpass.proofs.Falling.{Fallen, fallen_start, fallen_next, lands}
use Rattle.lowpass.proofs.Errors.{force}
use Rattle.lowpass.proofs.Calm.{Calming, Bounds, made, calming_next}
use Rattle.lowpass.proofs.After.{After, now, fed, after_then, after_more}

-- ---- one stage, from the ellipse of Y to that of Y'
module _ (N X Y Y' G s : ℕ) (b : Bounds X Y) (enough : force X Y ≤ G) (above : NN (edge (pos Y) -ℤ floor (pos G))) (time : N ≤ 680 * s)
    (lower : NN (short (pos 1227) (pos 850) (pos Y) (pos Y') (pos G))) where
  -- j samples from its start
  abbrev Down : ℕ → BiquadLowpassState → Type 0
  Down j f = Fallen (5 * N) 1508 j (edge (pos Y)) (floor (pos G)) (level (pos N) (val f.y1) (val f.y1 -ℤ val f.y2))

  module _ {f : BiquadLowpassState} (c : Calming N X Y f) where
    some : 0 < 5 * N
    some = omega (arith, c.known.box.rate_low)

    down_next : {j : ℕ} → Down j f → {x : Float} → Bounded X x → Down (1 + j) (next f x)
    down_next d h = fallen_next (5 * N) 1508 some (edge (pos Y)) (floor (pos G)) above (omega (arith, c.known.box.rate_low)) d (made b c h G enough).falls

    landed : {j : ℕ} → s ≤ j → Down j f → Inside N Y' (val f.y1) (val f.y1 -ℤ val f.y2)
    landed l d = record { room_left = lands (5 * N) 1508 some (edge (pos Y)) (floor (pos G)) above 850 377 (omega arith) (edge (pos Y')) (omega arith) lower d }

  -- one sample more than s, since the last output but one must be in the ellipse too
  stage_from : (m j : ℕ) → m + j ≡ s → {f : BiquadLowpassState} → Calming N X Y f → Down j f → After X (Calming N X Y') (suc m) f
  stage_from zero j e {f} c d = fed (λ x h.
      let n = calming_next b c h in
      now (record {
        known = n.known;
        x1_small = n.x1_small;
        x2_small = n.x2_small;
        y1_f32 = n.y1_f32;
        y2_small = bounded_abs c.y1_f32 (bound (landed c (omega arith) d));
        inside = landed n (omega arith) (down_next c d h);
      }))
  stage_from (suc m) j e c d = fed (λ x h. stage_from m (1 + j) (omega arith) (calming_next b c h) (down_next c d h))

  stage : {f : BiquadLowpassState} → Calming N X Y f → After X (Calming N X Y') (suc s) f
  stage c = stage_from s 0 (omega arith) c (fallen_start (5 * N) 1508 c.inside.room_left)

-- ---- the stages, in ten-thousandths of Z
abbrev stages : List ℕ
stages = 17525 ∷ 15555 ∷ 14005 ∷ 12800 ∷ 11880 ∷ 11180 ∷ 10660 ∷ 10275 ∷ 9995 ∷ []

-- from the ellipse of z each stage ends in the next ellipse
abbrev descends : ℕ → List ℕ → List Bool
descends z [] = []
descends z (z' ∷ zs) =
    leb 10000 z ∷ leb z 20000 ∷ non_neg (edge (pos z) -ℤ floor (pos (force 10000 z))) ∷ non_neg (short (pos 1227) (pos 850) (pos z) (pos z') (pos (force 10000 z))) ∷ descends z' zs

-- where they end, and how many samples they take
abbrev end : ℕ → List ℕ → ℕ
end z [] = z
end z (z' ∷ zs) = end z' zs

abbrev spent : ℕ → List ℕ → ℕ
spent s [] = 0
spent s (z ∷ zs) = suc s + spent s zs

all_stages : (N X e s : ℕ) → X ≤ 10000 * e → 8589934592 ≤ e → 640000 * e ≤ most → N ≤ 680 * s → (z : ℕ) (zs : List ℕ) → Every (descends z zs) →
    {f : BiquadLowpassState} → Calming N X (z * e) f → After X (Calming N X (end z zs * e)) (spent s zs) f
all_stages N X e s small low high time z [] t c = now c
all_stages N X e s small low high time z (z' ∷ zs) t c =
    let h : 10000 * e ≤ z * e = mul-le-mul_right e (leb→le 10000 z t.0) in
    let l : z * e ≤ 20000 * e = mul-le-mul_right e (leb→le z 20000 t.1.0) in
    after_then (spent s zs) (λ g d. all_stages N X e s small low high time z' zs t.1.1.1.1 d)
    (stage N X (z * e) (z' * e) (force 10000 z * e) s (record { below = le_trans small h; low = omega arith; high = le_trans (omega arith) high })
    (omega arith) (not_outside z (force 10000 z) e t.1.1.0) time (not_short 1227 850 z z' (force 10000 z) e t.1.1.1.0) c)

-- ---- one halving
larger : {N X Y Z : ℕ} {f : BiquadLowpassState} → Y ≤ Z → Calming N X Y f → Calming N X Z f
larger l c = record {
  known = c.known;
  x1_small = c.x1_small;
  x2_small = c.x2_small;
  y1_f32 = c.y1_f32;
  y2_small = bounded_by (mul-le-mul_left 2 l) c.y2_small;
  inside = wider l c.inside;
}

pub halves : {N X Z : ℕ} → X ≤ Z → 562949953421312 ≤ Z → 128 * Z ≤ most → {f : BiquadLowpassState} → Calming N X (2 * Z) f → After X (Calming N X Z) (halving N) f
halves {N} {X} {Z} below low high c =
    let e : ℕ = Z / 10000 + 1 in
    let s : ℕ = N / 680 + 1 in
    let b : Bounds X Z = record { below = below; low = le_trans (lit≤ tt) low; high = le_trans (omega arith) high } in
    after_more (λ g x h d. calming_next b d h) (omega (arith, c.known.box.rate_low)) (after_then 0 (λ g d. now (larger (omega arith) d))
    (all_stages N X e s (omega arith) (omega arith) (le_trans (omega arith) high) (omega arith) 20000 stages (parts (descends 20000 stages) tt) (larger (omega arith) c)))
