-- The coefficients of a rate N lie in the box, by the errors of the roundings that make them (`Made` of the crate angles) and the sizes of 1 - cos and alpha (`Sized`). In whole
-- numbers, a2 = α / 2 ^ 24 is 2 δ / 2 ^ 24 - 1 but for 2 / 2 ^ 24, and k = 2 ^ 24 (1 + a1 + a2) is 2 v δ / 2 ^ 24 but for 3.04: the error of δ, which is in all of them, falls out.
-- Assumes nothing.
use mathlib.Core.Path.{◌≡◌, sym, ap, ◌∙◌}
use mathlib.Core.Logic.{inl, inr}
use Prim.Native.Nat.{ℕ, ◌+◌, ◌-◌, ◌*◌, ◌^◌, ◌≤◌, ◌<◌}
use native.Mathlib.Nat.{le_trans, le_of_eq, mul_assoc, mul_right_comm, add-mul, mul-le-mul, mul-le-mul_left, mul-le-mul_right, le_of_mul-le-mul_right, lt_of_mul-lt-mul_right}
use native.Mathlib.Omega.{arith}
use lib.Dec.{lit<, lit≤}
use lib.Pow.{pow_pos}
use lib.Ieee.{Float}
use Rattle.ieee.specs.Units.{One}
use Rattle.ieee.specs.Bounds.{DifferBy}
use Rattle.ieee.proofs.Grid.{le_or_lt}
use Rattle.angles.specs.Angle.{Listed}
use Rattle.angles.proofs.Made.{one_23, Made}
use Rattle.angles.proofs.Sizes.{Sized}
use Rattle.lowpass.proofs.Boxed.{InBox}

-- ---- the roundings put together; x, y, z and u are δ times p, μ, C and v
record Together (δ A α v u : ℕ) : Type 0 where
  α-high : α + 16777216 ≤ 2 * δ + 2
  α-low : 2 * δ ≤ α + 16777218
  k_high : 16777216 + α ≤ 2 * A + 2 * v + 3
  k_low : 4 * u + 67108864 * A ≤ 33554432 * (16777216 + α) + 101783178

together : (p δ A α v x y z u : ℕ) → p ≤ 8948549 → δ ≤ 16777216 → DifferBy (2 * x) 281474976710656 p → DifferBy (2 * x + y) (33554432 * δ) δ → z + u ≡ 16777216 * δ
    → u ≤ v * 16777216
    → DifferBy (2 * (A * 16777216)) (2 * z) 16777216 → DifferBy (2 * (α * 16777216)) (2 * y) 16777216 → Together δ A α v u
together p δ A α v x y z u few many inverse both parts most first second = record { α-high = omega arith; α-low = omega arith; k_high = omega arith; k_low = omega arith }

module _ {cos sin : Float} {N C v a : ℕ} (l : Listed N) (whole : C + v ≡ 16777216) (s : Sized N v a) (m : Made cos sin C v a) where
  abbrev Q : ℕ
  Q = N * N

  Q-high : Q ≤ 36864000000
  Q-high = mul-le-mul l.high l.high

  N-pos : 0 < N
  N-pos = omega (arith, l.low)

  -- ---- 1 + alpha is p / 2 ^ 23
  p_n_high : 2 * (m.p * N) ≤ 16777217 * N + 8959033344
  p_n_high = le_of_mul-le-mul_right {k = 2 ^ 126} (go m.p One (2 ^ 126) one_23 s.a_high (mul-le-mul_right N m.p_near.above)) (pow_pos 126)
    where
      go : (p o w : ℕ) → o ≡ 8388608 * w → a * N ≤ 534 * o → 2 * (p * w) * N ≤ (2 * (o + a) + w) * N → 2 * (p * N) * w ≤ (16777217 * N + 8959033344) * w
      go p o w e h k = let x : o * N ≡ 8388608 * w * N = ap (λ (z : ℕ). z * N) e in omega arith

  p_n_low : 16777216 * N + 8908701696 ≤ 2 * (m.p * N) + N
  p_n_low = le_of_mul-le-mul_right {k = 2 ^ 126} (go m.p One (2 ^ 126) one_23 s.a_low (mul-le-mul_right N m.p_near.below)) (pow_pos 126)
    where
      go : (p o w : ℕ) → o ≡ 8388608 * w → 531 * o ≤ a * N → 2 * (o + a) * N ≤ (2 * (p * w) + w) * N → (16777216 * N + 8908701696) * w ≤ (2 * (p * N) + N) * w
      go p o w e h k = let x : o * N ≡ 8388608 * w * N = ap (λ (z : ℕ). z * N) e in omega arith

  p_most : (n : ℕ) → 16777217 * N + 8959033344 ≤ (2 * n + 1) * N → m.p ≤ n
  p_most n h = half m.p (le_of_mul-le-mul_right {k = N} (le_trans (le_of_eq (mul_assoc 2 m.p N)) (le_trans p_n_high h)) N-pos)
    where
      half : (p : ℕ) → 2 * p ≤ 2 * n + 1 → p ≤ n
      half p h = omega arith

  p_few : m.p ≤ 8948549
  p_few = p_most 8948549 (omega (arith, l.low))

  p_some : 8388608 ≤ m.p
  p_some = half m.p (le_of_mul-le-mul_right {k = N} (go m.p p_n_low) N-pos)
    where
      go : (p : ℕ) → 16777216 * N + 8908701696 ≤ 2 * (p * N) + N → 16777216 * N ≤ (2 * p + 1) * N
      go p h = omega arith

      half : (p : ℕ) → 16777216 ≤ 2 * p + 1 → 8388608 ≤ p
      half p h = omega arith

  -- ---- its inverse is δ / 2 ^ 24
  δ-least : (n d : ℕ) → m.p ≤ n → 2 * d * n < 281474976710656 + n → d ≤ m.δ
  δ-least n d h k = half d m.δ (lt_of_mul-lt-mul_right n (go m.δ (le_trans m.δ-near.below (add_le m.δ m.p h (mul-le-mul_left m.δ h)))))
    where
      add_le : (δ p : ℕ) → p ≤ n → δ * p ≤ δ * n → 2 * (δ * p) + p ≤ 2 * (δ * n) + n
      add_le δ p f e = omega arith

      go : (δ : ℕ) → 281474976710656 ≤ 2 * (δ * n) + n → 2 * d * n < (2 * δ + 2) * n
      go δ e = omega arith

      half : (d δ : ℕ) → 2 * d < 2 * δ + 2 → d ≤ δ
      half d δ e = omega arith

  δ-some : 15727000 ≤ m.δ
  δ-some = δ-least 8948549 15727000 p_few (lit< tt)

  δ-more : 100000 < N → 16688000 ≤ m.δ
  δ-more far = δ-least 8433405 16688000 (p_most 8433405 (omega arith)) (lit< tt)

  -- ---- the roundings at this rate
  both : DifferBy (2 * (m.δ * m.p) + m.μ * m.δ) (33554432 * m.δ) m.δ
  both = record {
    above = up m.p m.δ m.μ (mul-le-mul_right m.δ m.both_near.above);
    below = down m.p m.δ m.μ (mul-le-mul_right m.δ m.both_near.below);
  }
    where
      up : (p d u : ℕ) → (2 * p + u) * d ≤ (33554432 + 1) * d → 2 * (d * p) + u * d ≤ 33554432 * d + d
      up p d u h = omega arith

      down : (p d u : ℕ) → 33554432 * d ≤ (2 * p + u + 1) * d → 33554432 * d ≤ 2 * (d * p) + u * d + d
      down p d u h = omega arith

  parts : C * m.δ + v * m.δ ≡ 16777216 * m.δ
  parts = sym (add-mul C v m.δ) ∙ ap (λ (k : ℕ). k * m.δ) whole

  errors : Together m.δ m.A m.α v (v * m.δ)
  errors =
      together m.p m.δ m.A m.α v (m.δ * m.p) (m.μ * m.δ) (C * m.δ) (v * m.δ) p_few m.δ-many
      m.δ-near both parts (mul-le-mul_left v m.δ-many) m.A-near m.α-near

  -- ---- the slope, (2 ^ 24 - α) N: with E = 2 ^ 25 - 2 δ, E p is 2 ^ 25 (p - 2 ^ 23) but for p
  abbrev E : ℕ
  E = 33554432 - 2 * m.δ

  E-near : DifferBy (E * m.p + 281474976710656) (33554432 * m.p) m.p
  E-near = go E m.p m.δ (left m.δ m.δ-many) m.δ-near
    where
      left : (d : ℕ) → d ≤ 16777216 → 33554432 - 2 * d + 2 * d ≡ 33554432
      left d h = omega arith

      go : (e p d : ℕ) → e + 2 * d ≡ 33554432 → DifferBy (2 * (d * p)) 281474976710656 p → DifferBy (e * p + 281474976710656) (33554432 * p) p
      go e p d f w = let g : (e + 2 * d) * p ≡ 33554432 * p = ap (λ (k : ℕ). k * p) f in record { above = omega (arith, w.below); below = omega (arith, w.above) }

  E-low : 16445027123 + 2 * N ≤ E * N
  E-low =
      fit (E * N) (m.p * N) (E * m.p * N) (regroup (E * m.p) m.p (mul-le-mul_right N E-near.below))
      (le_trans (le_of_eq (mul_right_comm E m.p N)) (mul-le-mul_left (E * N) p_few)) p_n_low
    where
      regroup : (e p : ℕ) → 33554432 * p * N ≤ (e + 281474976710656 + p) * N → 33554432 * (p * N) ≤ e * N + 281474976710656 * N + p * N
      regroup e p h = omega arith

      fit : (x y z : ℕ) → 33554432 * y ≤ z + 281474976710656 * N + y → z ≤ x * 8948549 → 16777216 * N + 8908701696 ≤ 2 * y + N → 16445027123 + 2 * N ≤ x
      fit x y z b c d = omega (arith, l.high)

  E-high : E * N + 2 * N ≤ 17963029626
  E-high =
      fit (E * N) (m.p * N) (E * m.p * N) (regroup (E * m.p) m.p (mul-le-mul_right N E-near.above))
      (le_trans (mul-le-mul_left (E * N) p_some) (le_of_eq (mul_right_comm E N m.p))) p_n_high
    where
      regroup : (e p : ℕ) → (e + 281474976710656) * N ≤ (33554432 * p + p) * N → e * N + 281474976710656 * N ≤ 33554432 * (p * N) + p * N
      regroup e p h = omega arith

      fit : (x y z : ℕ) → z + 281474976710656 * N ≤ 33554432 * y + y → x * 8388608 ≤ z → 2 * y ≤ 16777217 * N + 8959033344 → x + 2 * N ≤ 17963029626
      fit x y z b c d = omega (arith, l.high)

  slope_low : 16445027123 + m.α * N ≤ 16777216 * N
  slope_low = go m.α m.δ E E-low (mul-le-mul_right N (sum m.α m.δ errors.α-high m.δ-many))
    where
      sum : (α δ : ℕ) → α + 16777216 ≤ 2 * δ + 2 → δ ≤ 16777216 → 33554432 - 2 * δ + α ≤ 16777218
      sum α δ h d = omega arith

      go : (α δ e : ℕ) → 16445027123 + 2 * N ≤ e * N → (e + α) * N ≤ 16777218 * N → 16445027123 + α * N ≤ 16777216 * N
      go α δ e h k = omega arith

  slope_high : 16777216 * N ≤ 17963029626 + m.α * N
  slope_high = go m.α m.δ E E-high (mul-le-mul_right N (sum m.α m.δ errors.α-low m.δ-many))
    where
      sum : (α δ : ℕ) → 2 * δ ≤ α + 16777218 → δ ≤ 16777216 → 16777214 ≤ 33554432 - 2 * δ + α
      sum α δ h d = omega arith

      go : (α δ e : ℕ) → e * N + 2 * N ≤ 17963029626 → 16777214 * N ≤ (e + α) * N → 16777216 * N ≤ 17963029626 + α * N
      go α δ e h k = omega arith

  -- ---- the stiffness
  abbrev pub k : ℕ
  k = 16777216 + m.α - 2 * m.A

  u_some : 62908000 ≤ v * m.δ
  u_some = mul-le-mul s.v_some δ-some

  stiffness : k + 2 * m.A ≡ 16777216 + m.α
  stiffness = go (16777216 + m.α) m.A (v * m.δ) u_some errors.k_low
    where
      go : (x A u : ℕ) → 62908000 ≤ u → 4 * u + 67108864 * A ≤ 33554432 * x + 101783178 → x - 2 * A + 2 * A ≡ x
      go x A u h e = omega arith

  stiff_high : k * Q ≤ 9728878046085
  stiff_high = go (k * Q) (v * Q) Q Q-high s.v_high (le_trans (mul-le-mul_right Q (more k m.A m.α stiffness errors.k_high)) (le_of_eq (spread Q)))
    where
      more : (k A α : ℕ) → k + 2 * A ≡ 16777216 + α → 16777216 + α ≤ 2 * A + 2 * v + 3 → k ≤ 2 * v + 3
      more k A α e h = omega arith

      spread : (q : ℕ) → (2 * v + 3) * q ≡ 2 * (v * q) + 3 * q
      spread q = omega arith

      go : (x y q : ℕ) → q ≤ 36864000000 → 2 * y ≤ 9538000000000 + q → x ≤ 2 * y + 3 * q → x ≤ 9728878046085
      go x y q b c d = omega arith

  -- with d for a bound on δ, and q on Q
  stiff_by : (d q : ℕ) → d ≤ m.δ → Q ≤ q → 33554432 * 8775066472939 + 101783178 * q + 2 * (d * q) ≤ 2 * (d * 9524000000000) → 8775066472939 ≤ k * Q
  stiff_by d q h i c =
      last (k * Q) (d * (v * Q)) (d * Q) (d * q) (d * 9524000000000) Q i (mul-le-mul_left d i) c
      (le_trans (mul-le-mul_left d s.v_low) (le_of_eq (spread (v * Q) Q)))
      (le_trans (mul-le-mul_left 4 (mul-le-mul_right (v * Q) h)) (turn k m.A m.α m.δ Q stiffness (mul-le-mul_right Q errors.k_low)))
    where
      spread : (x y : ℕ) → d * (2 * x + y) ≡ 2 * (d * x) + d * y
      spread x y = omega arith

      turn : (k A α δ Q : ℕ) → k + 2 * A ≡ 16777216 + α → (4 * (v * δ) + 67108864 * A) * Q ≤ (33554432 * (16777216 + α) + 101783178) * Q
          → 4 * (δ * (v * Q)) ≤ 33554432 * (k * Q) + 101783178 * Q
      turn k A α δ Q e h = let f : (k + 2 * A) * Q ≡ (16777216 + α) * Q = ap (λ (n : ℕ). n * Q) e in omega arith

      last : (x y dQ dq z Q : ℕ) → Q ≤ q → dQ ≤ dq → 33554432 * 8775066472939 + 101783178 * q + 2 * dq ≤ 2 * z → z ≤ 2 * y + dQ
          → 4 * y ≤ 33554432 * x + 101783178 * Q → 8775066472939 ≤ x
      last x y dQ dq z Q f g h i j = omega arith

  -- two cases, since below 100,000 δ may be small, and above the roundings count for more
  stiff_low : 8775066472939 ≤ k * Q
  stiff_low = elim (le_or_lt N 100000) [
    | inl g ↦ stiff_by 15727000 10000000000 δ-some (mul-le-mul g g) (lit≤ tt)
    | inr g ↦ stiff_by 16688000 36864000000 (δ-more g) Q-high (lit≤ tt)
  ]

  pub box : InBox N m.α (2 * m.A) k
  box = record { stiffness = stiffness; rate_low = omega (arith, l.low); slope_low = slope_low; slope_high = slope_high; stiff_low = stiff_low; stiff_high = stiff_high }

  -- ---- the gain
  pub gain : Q * (m.β₂ + m.β₁ + m.β₂) ≤ 160800000000000000000
  gain =
      let b = m.β₂ + m.β₁ + m.β₂ in
      last (Q * b) (v * m.δ * Q) (v * Q) Q Q-high s.v_high (turn b (v * m.δ) (mul-le-mul_right Q (all m.β₁ m.β₂ (v * m.δ) u_some m.β₁-above m.β₂-above)))
      (le_trans (mul-le-mul_right Q (mul-le-mul_left v m.δ-many)) (le_of_eq (mul_right_comm v 16777216 Q)))
    where
      all : (b c u : ℕ) → 62908000 ≤ u → 16777216 * (1 * b) ≤ 16777217 * u + 1 → 16777216 * (2 * c) ≤ 16777217 * b + 1 → 10000 * (c + b + c) ≤ 20001 * u
      all b c u h e f = omega arith

      turn : (b u : ℕ) → 10000 * b * Q ≤ 20001 * u * Q → 10000 * (Q * b) ≤ 20001 * (u * Q)
      turn b u h = omega arith

      last : (g x y q : ℕ) → q ≤ 36864000000 → 2 * y ≤ 9538000000000 + q → 10000 * g ≤ 20001 * x → x ≤ y * 16777216 → g ≤ 160800000000000000000
      last g x y q b c d e = omega arith
