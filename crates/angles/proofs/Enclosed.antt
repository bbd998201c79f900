-- The exact sums by the cut terms. At x = a / c = w / 2 ^ 32 each exact term lies from the cut one, t, to t + 2 steps of 2 ^ -60: less than a step is cut off, and two steps of the
-- term before come to less than one. So the exact sums of four and of five terms lie from t - t₁ + t₂ - t₃ - 4 to that and t₄ + 8 more. Assumes nothing.
use mathlib.Core.Path.{◌≡◌, refl, sym, ap, ap₂, ◌∙◌}
use Prim.Native.Nat.{ℕ, suc, ◌+◌, ◌-◌, ◌*◌, ◌%◌, ◌^◌, ◌≤◌, ◌<◌}
use native.Mathlib.Nat.{le_trans, le_of_eq, mul-le-mul_right, le_of_mul-le-mul_right}
use native.Mathlib.Omega.{arith}
use lib.Pow.{pow_pos}
use Rattle.rates.specs.Series.{next_term}
use Rattle.angles.specs.Angle.{next_divisor, numerator_at, down}
use Rattle.angles.proofs.Partial.{factor_pos, T-next, taken, plus}
use Rattle.angles.proofs.Terms.{low_term, high_term, by, t₁, t₂, t₃, t₄, sum, Falling, falling}

-- p / q lies from l to h steps
pub record Within (l h p q : ℕ) : Type 0 where
  pub above : l * q ≤ p * 2 ^ 60
  pub below : p * 2 ^ 60 ≤ h * q

-- where the range begins, and how long it is
abbrev pub low : (s w t : ℕ) → ℕ
low s w t = t + t₂ s w t - (t₁ s w t + t₃ s w t + 4)

abbrev pub wide : (s w t : ℕ) → ℕ
wide s w t = t₄ s w t + 8

pub low_large : (s w t g : ℕ) → w * w < 2 ^ 58 → 0 < g → 33554432 * g ≤ t → 16777216 * g ≤ low s w t
low_large s w t g few G h = go t (t₁ s w t) (t₂ s w t) (t₃ s w t) (t₄ s w t) h (falling s w t few)
  where
    go : (t u v x y : ℕ) → 33554432 * g ≤ t → Falling t u v x y → 16777216 * g ≤ t + v - (u + x + 4)
    go t u v x y h f = omega arith

module _ (s a c w : ℕ) (small : a ≤ c) (some : 0 < c) (at : a * 2 ^ 32 ≡ w * c) (few : w * w < 2 ^ 58) where
  abbrev y : ℕ
  y = w * w

  abbrev D : ℕ → ℕ
  D k = down s c k

  -- the exact sum and the exact term to the power s + 2 * k, times 2 ^ 60 and over D k
  abbrev U : ℕ → ℕ
  U k = numerator_at s a c k * 2 ^ 60

  abbrev T : ℕ → ℕ
  T k = a ^ (s + 2 * k) * 2 ^ 60

  record Held (k t : ℕ) : Type 0 where
    least : t * D k ≤ T k
    most : T k ≤ (t + 2) * D k

  -- the sum lies from p - n to p' - n'
  record Summed (k p n p' n' : ℕ) : Type 0 where
    above : p * D k ≤ U k + n * D k
    below : U k + n' * D k ≤ p' * D k

  -- ---- the next term
  squares : a * a * 2 ^ 64 ≡ y * (c * c)
  squares = let e : a * 2 ^ 32 * (a * 2 ^ 32) ≡ w * c * (w * c) = ap₂ (λ (x y : ℕ). x * y) at at in omega arith

  next_is : (k : ℕ) → T (suc k) * 2 ^ 64 ≡ T k * (y * (c * c))
  next_is k = ap (λ (x : ℕ). x * 2 ^ 60 * 2 ^ 64) (T-next s a c small some k) ∙ go (a ^ (s + 2 * k)) ∙ ap (λ (x : ℕ). T k * x) squares
    where
      go : (t : ℕ) → t * (a * a) * 2 ^ 60 * 2 ^ 64 ≡ t * 2 ^ 60 * (a * a * 2 ^ 64)
      go t = omega arith

  next : (k t : ℕ) → Held k t → Held (suc k) (next_term y t (by s k))
  unfolding down
  next k t h = record {
    least = le_of_mul-le-mul_right (under (next_term y t (by s k)) (T k) (T (suc k)) (D k) y (by s k) (next_is k) (low_term y t (by s k)) h.least) (pow_pos 64);
    most = le_of_mul-le-mul_right (over (next_term y t (by s k)) (T k) (T (suc k)) (D k) y (by s k) (next_is k) (high_term y t (by s k) few (factor_pos s k)) h.most)
        (pow_pos 64);
  }
    where
      under : (u T T' D y n : ℕ) → T' * 2 ^ 64 ≡ T * (y * (c * c)) → u * (2 ^ 64 * n) ≤ y * t → t * D ≤ T → u * (D * (c * c * n)) * 2 ^ 64 ≤ T' * 2 ^ 64
      under u T T' D y n e l m =
          let l' : u * (2 ^ 64 * n) * (D * (c * c)) ≤ y * t * (D * (c * c)) = mul-le-mul_right (D * (c * c)) l in
          let m' : t * D * (y * (c * c)) ≤ T * (y * (c * c)) = mul-le-mul_right (y * (c * c)) m in
          omega arith

      over : (u T T' D y n : ℕ) → T' * 2 ^ 64 ≡ T * (y * (c * c)) → y * (t + 2) ≤ (u + 2) * (2 ^ 64 * n) → T ≤ (t + 2) * D → T' * 2 ^ 64 ≤ (u + 2) * (D * (c * c * n)) * 2 ^ 64
      over u T T' D y n e l m =
          let l' : y * (t + 2) * (D * (c * c)) ≤ (u + 2) * (2 ^ 64 * n) * (D * (c * c)) = mul-le-mul_right (D * (c * c)) l in
          let m' : T * (y * (c * c)) ≤ (t + 2) * D * (y * (c * c)) = mul-le-mul_right (y * (c * c)) m in
          omega arith

  -- ---- the next sum
  less : (k t : ℕ) {p n p' n' : ℕ} → k % 2 ≡ 0 → Held (suc k) t → Summed k p n p' n' → Summed (suc k) p (n + (t + 2)) p' (n' + t)
  unfolding down
  less k t {p} {n} {p'} {n'} e h i =
      let G = next_divisor s c k in
      let u : U (suc k) + T (suc k) ≡ U k * G = go (numerator_at s a c (suc k)) (a ^ (s + 2 * suc k)) (numerator_at s a c k) G
      (ap (λ (x : ℕ). x * 2 ^ 60) (taken s a c small some k e)) in
      record {
        above = under (U k) (U (suc k)) (T (suc k)) (D k) G u h.most (mul-le-mul_right G i.above);
        below = over (U k) (U (suc k)) (T (suc k)) (D k) G u h.least (mul-le-mul_right G i.below);
      }
    where
      go : (v t u g : ℕ) → (v + t) * 2 ^ 60 ≡ u * g * 2 ^ 60 → v * 2 ^ 60 + t * 2 ^ 60 ≡ u * 2 ^ 60 * g
      go v t u g e = omega arith

      under : (u v T d g : ℕ) → v + T ≡ u * g → T ≤ (t + 2) * (d * g) → p * d * g ≤ (u + n * d) * g → p * (d * g) ≤ v + (n + (t + 2)) * (d * g)
      under u v T d g e h i = omega arith

      over : (u v T d g : ℕ) → v + T ≡ u * g → t * (d * g) ≤ T → (u + n' * d) * g ≤ p' * d * g → v + (n' + t) * (d * g) ≤ p' * (d * g)
      over u v T d g e h i = omega arith

  more : (k t : ℕ) {p n p' n' : ℕ} → (k % 2 ≡ 0 → ⊥) → Held (suc k) t → Summed k p n p' n' → Summed (suc k) (p + t) n (p' + (t + 2)) n'
  unfolding down
  more k t {p} {n} {p'} {n'} e h i =
      let G = next_divisor s c k in
      let u : U (suc k) ≡ U k * G + T (suc k) = go (numerator_at s a c (suc k)) (a ^ (s + 2 * suc k)) (numerator_at s a c k) G
      (ap (λ (x : ℕ). x * 2 ^ 60) (plus s a c small some k e)) in
      record {
        above = under (U k) (U (suc k)) (T (suc k)) (D k) G u h.least (mul-le-mul_right G i.above);
        below = over (U k) (U (suc k)) (T (suc k)) (D k) G u h.most (mul-le-mul_right G i.below);
      }
    where
      go : (v t u g : ℕ) → v * 2 ^ 60 ≡ (u * g + t) * 2 ^ 60 → v * 2 ^ 60 ≡ u * 2 ^ 60 * g + t * 2 ^ 60
      go v t u g e = omega arith

      under : (u v T d g : ℕ) → v ≡ u * g + T → t * (d * g) ≤ T → p * d * g ≤ (u + n * d) * g → (p + t) * (d * g) ≤ v + n * (d * g)
      under u v T d g e h i = omega arith

      over : (u v T d g : ℕ) → v ≡ u * g + T → T ≤ (t + 2) * (d * g) → (u + n' * d) * g ≤ p' * d * g → v + n' * (d * g) ≤ (p' + (t + 2)) * (d * g)
      over u v T d g e h i = omega arith

  within : {k p n p' n' l h : ℕ} → Summed k p n p' n' → l + n ≤ p → p' ≤ h + n' → Within l h (numerator_at s a c k) (D k)
  within {k} {p} {n} {p'} {n'} {l} {h} i e f = record {
    above = under (U k) (D k) i.above (mul-le-mul_right (D k) e);
    below = over (U k) (D k) i.below (mul-le-mul_right (D k) f);
  }
    where
      under : (x d : ℕ) → p * d ≤ x + n * d → (l + n) * d ≤ p * d → l * d ≤ x
      under x d a b = omega arith

      over : (x d : ℕ) → x + n' * d ≤ p' * d → p' * d ≤ (h + n') * d → x ≤ h * d
      over x d a b = omega arith

  -- ---- four and five terms from the first, which is exact
  module _ (t : ℕ) (first : t * c ^ s ≡ a ^ s * 2 ^ 60) where
    abbrev u₁ : ℕ
    u₁ = t₁ s w t

    abbrev u₂ : ℕ
    u₂ = t₂ s w t

    abbrev u₃ : ℕ
    u₃ = t₃ s w t

    abbrev u₄ : ℕ
    u₄ = t₄ s w t

    held₀ : Held 0 t
    unfolding down
    held₀ =
        let e : t * c ^ s ≡ T 0 = first ∙ ap (λ (x : ℕ). a ^ x * 2 ^ 60) (none s) in
        record { least = le_of_eq e; most = le_trans (le_of_eq (sym e)) (mul-le-mul_right (c ^ s) (two t)) }
      where
        none : (s : ℕ) → s ≡ s + 2 * 0
        none s = omega arith

        two : (t : ℕ) → t ≤ t + 2
        two t = omega arith

    summed₀ : Summed 0 t 0 t 0
    unfolding numerator_at down
    summed₀ = record { above = go (c ^ s) (le_of_eq first); below = back (c ^ s) (le_of_eq (sym first)) }
      where
        go : (d : ℕ) {x y : ℕ} → x ≤ y → x ≤ y + 0 * d
        go d h = omega arith

        back : (d : ℕ) {x y : ℕ} → y ≤ x → y + 0 * d ≤ x
        back d h = omega arith

    held₁ : Held 1 u₁
    held₁ = next 0 t held₀

    held₂ : Held 2 u₂
    held₂ = next 1 u₁ held₁

    held₃ : Held 3 u₃
    held₃ = next 2 u₂ held₂

    summed₃ : Summed 3 (t + u₂) (0 + (u₁ + 2) + (u₃ + 2)) (t + (u₂ + 2)) (0 + u₁ + u₃)
    summed₃ = less 2 u₃ refl held₃ (more 1 u₂ (λ e. omega (arith, e)) held₂ (less 0 u₁ refl held₁ summed₀))

    summed₄ : Summed 4 (t + u₂ + u₄) (0 + (u₁ + 2) + (u₃ + 2)) (t + (u₂ + 2) + (u₄ + 2)) (0 + u₁ + u₃)
    summed₄ = more 3 u₄ (λ e. omega (arith, e)) (next 3 u₃ held₃) summed₃

    module _ (positive : 0 < low s w t) where
      pub four : Within (low s w t) (low s w t + wide s w t) (numerator_at s a c 3) (down s c 3)
      four = within summed₃ (start t u₁ u₂ u₃ positive) (end t u₁ u₂ u₃ u₄ positive)
        where
          start : (t u v x : ℕ) → 0 < t + v - (u + x + 4) → t + v - (u + x + 4) + (0 + (u + 2) + (x + 2)) ≤ t + v
          start t u v x h = omega arith

          end : (t u v x y : ℕ) → 0 < t + v - (u + x + 4) → t + (v + 2) ≤ t + v - (u + x + 4) + (y + 8) + (0 + u + x)
          end t u v x y h = omega arith

      pub five : Within (low s w t) (low s w t + wide s w t) (numerator_at s a c 4) (down s c 4)
      five = within summed₄ (start t u₁ u₂ u₃ u₄ positive) (end t u₁ u₂ u₃ u₄ positive)
        where
          start : (t u v x y : ℕ) → 0 < t + v - (u + x + 4) → t + v - (u + x + 4) + (0 + (u + 2) + (x + 2)) ≤ t + v + y
          start t u v x y h = omega arith

          end : (t u v x y : ℕ) → 0 < t + v - (u + x + 4) → t + (v + 2) + (y + 2) ≤ t + v - (u + x + 4) + (y + 8) + (0 + u + x)
          end t u v x y h = omega arith

      -- and so does the cut sum
      pub cut : (low s w t ≤ sum s w t) × (sum s w t < low s w t + wide s w t)
      cut = go t u₁ u₂ u₃ u₄ positive (falling s w t few)
        where
          go : (t u v x y : ℕ) → 0 < t + v - (u + x + 4) → Falling t u v x y → (t + v - (u + x + 4) ≤ t - u + v - x + y) × (t - u + v - x + y < t + v - (u + x + 4) + (y + 8))
          go t u v x y h f = (omega arith, omega arith)
