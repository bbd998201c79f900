-- w0 in whole numbers: at a rate that is accepted it is angle_of rate / 2 ^ 32, and times the rate it is TAU × 120 but for 193,024 / 2 ^ 32. Assumes nothing.
use mathlib.Core.Path.{◌≡◌, refl, sym, ap, ◌∙◌, subst}
use mathlib.Core.Logic.{inl, inr}
use mathlib.Core.Bool.{false}
use Prim.Native.Nat.{ℕ, ◌+◌, ◌*◌, ◌^◌, ◌≤◌, ◌<◌}
use native.Mathlib.Nat.{le_trans, le_of_eq, le_of_lt, lt_of_le_of_lt, lt_of_mul-lt-mul_right, le_of_mul-le-mul_right, eq_of_mul-eq-mul_right}
use native.Mathlib.Nat.{add-zero, mul_assoc, mul_right_comm, mul-le-mul, mul-le-mul_right, mul-pos}
use native.Mathlib.Omega.{arith}
use borrow.Author.Tests.{lt-ltb, le-ltb}
use lib.Dec.{lit≤}
use lib.Pow.{pow-add, pow_pos}
use lib.IntN.{pos, negsuc}
use lib.Ieee.{Float, fin, binary32, of_bits, of_int, mul, div, round, fits}
use lib.Ieee.Nearest.{closest}
use lib.Ieee.Positive.{num, den}
use Rattle.ieee.specs.Units.{One, mag, P}
use Rattle.ieee.specs.Bounds.{DifferBy}
use Rattle.ieee.proofs.Grid.{closest_near}
use Rattle.ieee.proofs.Grid.{le_or_lt}
use Rattle.ieee.proofs.Value.{one_pos, shape}
use Rattle.ieee.proofs.Signed.{mag_is}
use Rattle.ieee.proofs.Constants.{whole_is}
use Rattle.ieee.proofs.Digits.{Plus, plus_of, closest_least, kept, div_plus}
use Rattle.rates.specs.Rates.{Listed}
use Rattle.rates.specs.Series.{step_of, angle_of}
use Rattle.angles.specs.Angle.{w0}

-- ---- the step is a power of two, and the quotient has 24 digits
pub record Stepped (r s : ℕ) : Type 0 where
  pub e : ℕ
  pub is : s ≡ 2 ^ e
  pub few : 8388608 * (r * s) ≤ 3238329057280
  pub many : 3238329057280 < 16777216 * (r * s)
  pub near : r * s ≤ 386048
  pub less : e ≤ 5

pub stepped : {r : ℕ} → Listed r → Stepped r (step_of r)
stepped {r} l = elim (le_or_lt 24128 r) [
  | inr a ↦ elim (le_or_lt 12064 r) [
    | inr b ↦ rw (lt-ltb r 24128 a, lt-ltb r 12064 b) (at 5 (omega (arith, l.low)) (omega (arith, l.low)) (omega arith) (lit≤ tt))
    | inl b ↦ rw (lt-ltb r 24128 a, le-ltb r 12064 b) (at 4 (omega arith) (omega arith) (omega arith) (lit≤ tt))
  ]
  | inl a ↦ elim (le_or_lt 48255 r) [
    | inr b ↦ rw (le-ltb r 24128 a, lt-ltb r 48255 b) (at 3 (omega arith) (omega arith) (omega arith) (lit≤ tt))
    | inl b ↦ elim (le_or_lt 96510 r) [
      | inr d ↦ rw (le-ltb r 24128 a, le-ltb r 48255 b, lt-ltb r 96510 d) (at 2 (omega arith) (omega arith) (omega arith) (lit≤ tt))
      | inl d ↦ rw (le-ltb r 24128 a, le-ltb r 48255 b, le-ltb r 96510 d) (at 1 (omega arith) (omega arith) (omega (arith, l.high)) (lit≤ tt))
    ]
  ]
]
  where
    at : (e : ℕ) → 8388608 * (r * 2 ^ e) ≤ 3238329057280 → 3238329057280 < 16777216 * (r * 2 ^ e) → r * 2 ^ e ≤ 386048 → e ≤ 5 → Stepped r (2 ^ e)
    at e f m n h = record { e = e; is = refl; few = f; many = m; near = n; less = h }

-- ---- TAU × 120
turn : mul binary32 (of_bits binary32 0x40c90fdb) (of_int binary32 (pos 120)) ≡ fin false 12353245 (negsuc 13)
unfolding mul of_bits of_int round
turn = refl

turn_is : Plus (fin false 12353245 (negsuc 13)) (3238329057280 * 2 ^ 117)
unfolding mag One fits
turn_is = record { f32 = record { fine = tt; fit = tt }; up = refl; down = refl }

module _ {r : ℕ} (l : Listed r) where
  abbrev s : ℕ
  s = step_of r

  abbrev σ : Stepped r s
  σ = stepped l

  r_pos : 0 < r
  r_pos = omega (arith, l.low)

  pub s_pos : 0 < s
  s_pos = subst (λ (k : ℕ). 0 < k) (sym σ.is) (pow_pos σ.e)

  pub step_size : (0 < r * s) × (r * s ≤ 386048)
  step_size = (mul-pos r_pos s_pos, σ.near)

  -- ---- the division
  power : 2 ^ (117 + σ.e) ≡ 2 ^ 117 * s
  power = pow-add 2 117 σ.e ∙ ap (λ (x : ℕ). 2 ^ 117 * x) (sym σ.is)

  share : 3238329057280 * 2 ^ 117 * One * (r * s) ≡ 3238329057280 * 2 ^ (117 + σ.e) * (r * One)
  share = go (2 ^ 117) One s ∙ ap (λ (x : ℕ). 3238329057280 * x * (r * One)) (sym power)
    where
      go : (z o s : ℕ) → 3238329057280 * z * o * (r * s) ≡ 3238329057280 * (z * s) * (r * o)
      go z o s = omega arith

  pub w0_is : Plus (w0 r) (angle_of r * 2 ^ 117)
  unfolding w0 angle_of
  w0_is =
      subst (Plus (w0 r)) (ap (λ (x : ℕ). closest 3238329057280 (r * s) * x) power ∙ back (closest 3238329057280 (r * s)) (2 ^ 117) s)
      (subst (λ (t : Float). Plus (div binary32 t (of_int binary32 (pos r))) (closest 3238329057280 (r * s) * 2 ^ (117 + σ.e))) (sym turn)
      (div_plus turn_is (plus_of (whole_is r (omega (arith, l.high)))) (mul-pos r_pos one_pos)
      (kept (3238329057280 * 2 ^ 117 * One) (r * One) 3238329057280 (r * s) (117 + σ.e) (mul-pos r_pos one_pos) (mul-pos r_pos s_pos)
      share σ.few σ.many (omega (arith, σ.less)))))
    where
      back : (q z s : ℕ) → q * (z * s) ≡ q * s * z
      back q z s = omega arith

  -- as a fraction
  pub fraction : num (w0 r) * 2 ^ 32 ≡ angle_of r * den (w0 r)
  unfolding One
  fraction =
      let x = w0 r in
      let m : mag x ≡ angle_of r * 2 ^ 117 = mag_is x ∙ ap (λ (k : ℕ). P x + k) w0_is.down ∙ add-zero (P x) ∙ w0_is.up in
      eq_of_mul-eq-mul_right (2 ^ 117) (pow_pos 117) _ _
      (mul_assoc (num x) (2 ^ 32) (2 ^ 117) ∙ (shape x w0_is.f32).value ∙ ap (λ (y : ℕ). y * den x) m ∙ mul_right_comm (angle_of r) (2 ^ 117) (den x))

  -- ---- its size
  nearby : DifferBy (2 * (angle_of r * r)) 6476658114560 386048
  unfolding angle_of
  nearby = go (closest 3238329057280 (r * s)) s σ.near (closest_near 3238329057280 (r * s) (mul-pos r_pos s_pos))
    where
      go : (q s : ℕ) → r * s ≤ 386048 → DifferBy (2 * (q * (r * s))) (2 * 3238329057280) (r * s) → DifferBy (2 * (q * s * r)) 6476658114560 386048
      go q s l w = record { above = omega (arith, w.above); below = omega (arith, w.below) }

  pub angle_top : angle_of r * r ≤ 3238329250304
  angle_top = omega (arith, nearby.above)

  pub angle_bottom : 3238328864256 ≤ angle_of r * r
  angle_bottom = omega (arith, nearby.below)

  pub angle_small : angle_of r < 2 ^ 29
  angle_small = lt_of_mul-lt-mul_right r (lt_of_le_of_lt angle_top (big r l.low))
    where
      big : (r : ℕ) → 8000 ≤ r → 3238329250304 < 2 ^ 29 * r
      big r h = omega arith

  -- all 24 digits
  pub angle_large : 8388608 * s ≤ angle_of r
  unfolding angle_of
  angle_large = mul-le-mul_right s (closest_least 3238329057280 (r * s) 8388608 (mul-pos r_pos s_pos) σ.few)

  pub square_small : angle_of r * angle_of r < 2 ^ 58
  square_small = go (angle_of r) angle_small
    where
      go : (w : ℕ) → w < 2 ^ 29 → w * w < 2 ^ 58
      go w h = let k : w ≤ 536870911 = omega arith in let m = mul-le-mul k k in omega (arith, m)

  pub at_most_one : num (w0 r) ≤ den (w0 r)
  at_most_one = le_of_mul-le-mul_right {k = 2 ^ 32} (le_trans (le_of_eq fraction) (fit (angle_of r) (den (w0 r)) angle_small)) (pow_pos 32)
    where
      fit : (w d : ℕ) → w < 2 ^ 29 → w * d ≤ d * 2 ^ 32
      fit w d h = let m : w * d ≤ 536870912 * d = mul-le-mul_right d (le_of_lt h) in omega arith
