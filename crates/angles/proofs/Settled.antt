-- What lies inside one cell, between two neighbouring multiples of g = 2 ^ (13 + i) steps of 2 ^ -60, rounds alike where g is half the last of 24 digits, or a part of it: the
-- exact sums, and the middle of the 2 ^ 13 steps around the cut sum. So where the test has passed, the cut sum gives the f32 meant. Assumes nothing.
use mathlib.Core.Path.{◌≡◌, refl, sym, ap, ◌∙◌, subst}
use mathlib.Core.Bool.{false}
use Prim.Native.Nat.{ℕ, ◌+◌, ◌*◌, ◌/◌, ◌%◌, ◌^◌, ◌≤◌, ◌<◌}
use native.Mathlib.Nat.{le_of_eq, lt_of_lt_of_le, lt_of_le_of_lt, mul_assoc, mul-lt-mul_of_pos_right, div-add-mod', le-div_iff_mul-le}
use native.Mathlib.Omega.{arith}
use lib.Dec.{T, ltb, ltb→lt}
use lib.Pow.{pow-add, pow_pos}
use lib.Ieee.{Float, binary32, round}
use lib.Ieee.Fits.{and_l, and_r}
use lib.Ieee.Positive.{num, den, den_pos}
use Rattle.ieee.specs.Units.{One}
use Rattle.ieee.proofs.Closest.{InCell, same_cell}
use Rattle.ieee.proofs.Unique.{unique}
use Rattle.rates.specs.Suffice.{inside}
use Rattle.angles.specs.Angle.{numerator_at, down, partial, Meant}
use Rattle.angles.proofs.Partial.{Fraction, fraction, D-pos}
use Rattle.angles.proofs.OneMeant.{size_of}
use Rattle.angles.proofs.Terms.{sum}
use Rattle.angles.proofs.Enclosed.{Within, low, wide}
use Rattle.angles.proofs.Enclosed as enclosed

-- ---- two fractions in one cell
alike : (f j p q p' q' : ℕ) → 16777216 ≤ f → Fraction p q → Fraction p' q' → InCell f j (p * One) q → InCell f j (p' * One) q'
    → round binary32 false p q ≡ round binary32 false p' q'
alike f j p q p' q' l x x' i i' =
    let a = size_of p q x in
    let b = size_of p' q' x' in
    unique (round binary32 false p q) (round binary32 false p' q') a.f32 b.f32 (a.signed ∙ sym b.signed)
    (a.size ∙ same_cell f j (p * One) q (p' * One) q' x.some x'.some l i i' ∙ sym b.size)

-- ---- the cell of a range from b to b + d that the test has passed
module _ (b d g i : ℕ) (g-is : g ≡ 2 ^ (13 + i)) (t : T (inside (b % g) d g)) where
  abbrev f : ℕ
  f = b / g

  begins : f * g < b
  begins = let s : 0 < b % g = ltb→lt 0 (b % g) (and_l (ltb 0 (b % g)) (ltb (b % g + d) g) t) in omega (arith, div-add-mod' b g)

  ends : b + d < (f + 1) * g
  ends = let s : b % g + d < g = ltb→lt (b % g + d) g (and_r (ltb 0 (b % g)) (ltb (b % g + d) g) t) in omega (arith, div-add-mod' b g)

  -- a multiple of g in units
  units : (f q : ℕ) → f * 2 ^ (13 + i + 89) * q ≡ f * g * q * 2 ^ 89
  units f q = ap (λ (x : ℕ). f * x * q) (pow-add 2 (13 + i) 89 ∙ ap (λ (x : ℕ). x * 2 ^ 89) (sym g-is)) ∙ turn (2 ^ 89)
    where
      turn : (z : ℕ) → f * (g * z) * q ≡ f * g * q * z
      turn z = omega arith

  cell : (p q : ℕ) → f * g * q < p * 2 ^ 60 → p * 2 ^ 60 < (f + 1) * g * q → InCell f (13 + i + 89) (p * One) q
  unfolding One
  cell p q h k =
      let e : p * 2 ^ 60 * 2 ^ 89 ≡ p * 2 ^ 149 = mul_assoc p (2 ^ 60) (2 ^ 89) in
      record {
        above = lt_of_le_of_lt (le_of_eq (units f q)) (lt_of_lt_of_le (mul-lt-mul_of_pos_right h (pow_pos 89)) (le_of_eq e));
        below = lt_of_le_of_lt (le_of_eq (sym e)) (lt_of_lt_of_le (mul-lt-mul_of_pos_right k (pow_pos 89)) (le_of_eq (sym (units (f + 1) q))));
      }

  exact_cell : (p q : ℕ) → 0 < q → Within b (b + d) p q → InCell f (13 + i + 89) (p * One) q
  exact_cell p q Q w = cell p q (lt_of_lt_of_le (mul-lt-mul_of_pos_right begins Q) w.above) (lt_of_le_of_lt w.below (mul-lt-mul_of_pos_right ends Q))

  -- the middle of the 2 ^ 13 steps around n
  cut_cell : (n : ℕ) → b ≤ n → n < b + d → InCell f (13 + i + 89) ((2 * (n / 2 ^ 13) + 1) * One) (2 ^ 48)
  cut_cell n u v = cell (2 * (n / 2 ^ 13) + 1) (2 ^ 48) (above (f * g) (f * 2 ^ i) (part f) begins) (below ((f + 1) * g) ((f + 1) * 2 ^ i) (part (f + 1)) ends)
    where
      -- each multiple of g is one of 2 ^ 13
      part : (f : ℕ) → f * g ≡ f * 2 ^ i * 2 ^ 13
      part f = ap (λ (x : ℕ). f * x) (g-is ∙ pow-add 2 13 i) ∙ go (2 ^ i)
        where
          go : (x : ℕ) → f * (2 ^ 13 * x) ≡ f * x * 2 ^ 13
          go x = omega arith

      above : (x y : ℕ) → x ≡ y * 2 ^ 13 → x < b → x * 2 ^ 48 < (2 * (n / 2 ^ 13) + 1) * 2 ^ 60
      above x y e h = omega arith

      below : (x y : ℕ) → x ≡ y * 2 ^ 13 → b + d < x → (2 * (n / 2 ^ 13) + 1) * 2 ^ 60 < x * 2 ^ 48
      below x y e h = omega arith

-- ---- the sums of four and of five terms round to r, so that r is meant, and the sum of five terms, rounded, is
pub record Both (s : ℕ) (x r : Float) : Type 0 where
  pub four : partial s x 3 ≡ r
  pub five : partial s x 4 ≡ r

pub meant : {s : ℕ} {x r : Float} → Both s x r → Meant s x r
meant b = record { k = 3; here = b.four; next = b.five }

pub five_meant : {s : ℕ} {x r : Float} → Both s x r → Meant s x (partial s x 4)
five_meant b = record { k = 3; here = b.four ∙ sym b.five; next = refl }

-- ---- a series at x = w / 2 ^ 32 whose range passes
module _ (s w t i : ℕ) (x : Float) (small : num x ≤ den x) (at : num x * 2 ^ 32 ≡ w * den x) (few : w * w < 2 ^ 58) (first : t * den x ^ s ≡ num x ^ s * 2 ^ 60)
    (g : ℕ) (g-is : g ≡ 2 ^ (13 + i)) (large : 16777216 * g ≤ low s w t) (test : T (inside (low s w t % g) (wide s w t) g)) where
  g_pos : 0 < g
  g_pos = subst (λ (k : ℕ). 0 < k) (sym g-is) (pow_pos (13 + i))

  positive : 0 < low s w t
  positive = omega (arith, large, g_pos)

  -- n is the cut sum
  pub both : (n : ℕ) → n ≡ sum s w t → n < 2 ^ 60 → Both s x (round binary32 false (2 * (n / 2 ^ 13) + 1) (2 ^ 48))
  unfolding partial
  both n e h = record {
    four = one 3 (enclosed.four s (num x) (den x) w small (den_pos x) at few t first positive);
    five = one 4 (enclosed.five s (num x) (den x) w small (den_pos x) at few t first positive);
  }
    where
      between : (low s w t ≤ n) × (n < low s w t + wide s w t)
      between = subst (λ (k : ℕ). (low s w t ≤ k) × (k < low s w t + wide s w t)) (sym e) (enclosed.cut s (num x) (den x) w small (den_pos x) at few t first positive)

      one : (k : ℕ) → Within (low s w t) (low s w t + wide s w t) (numerator_at s (num x) (den x) k) (down s (den x) k)
          → partial s x k ≡ round binary32 false (2 * (n / 2 ^ 13) + 1) (2 ^ 48)
      one k v =
          alike (low s w t / g) (13 + i + 89) (numerator_at s (num x) (den x) k) (down s (den x) k) (2 * (n / 2 ^ 13) + 1) (2 ^ 48) ((le-div_iff_mul-le g_pos).1 large)
          (fraction s (num x) (den x) small (den_pos x) k) (record { some = pow_pos 48; most = omega arith })
          (exact_cell (low s w t) (wide s w t) g i g-is test (numerator_at s (num x) (den x) k) (down s (den x) k) (D-pos s (num x) (den x) small (den_pos x) k) v)
          (cut_cell (low s w t) (wide s w t) g i g-is test n between.0 between.1)
