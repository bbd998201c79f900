-- The partial sums of a series at x = a / c, a at most c, as fractions: the terms fall, each sum lies between the two before it, and all are at most 1. Assumes nothing.
use mathlib.Core.Path.{◌≡◌, refl, sym, ap, ◌∙◌}
use mathlib.Core.Logic.{◌⊎◌, inl, inr}
use mathlib.Core.Bool.{Bool, cond}
use Prim.Native.Nat.{ℕ, zero, suc, ◌+◌, ◌-◌, ◌*◌, ◌%◌, ◌^◌, ◌≤◌, ◌<◌}
use native.Mathlib.Nat.{le_trans, le_of_eq, eq-zero-or-pos, lt_irrefl, lt_of_lt_of_le}
use native.Mathlib.Nat.{mul-one, one-mul, mul-le-mul, mul-le-mul_left, mul-le-mul_right, mul-pos, one-le-pow, pow-suc, pow-zero, pow-le-pow_left}
use native.Mathlib.Omega.{arith}
use borrow.Author.Tests.{eq-eqb, ne_eqb}
use lib.Pow.{pow-add}
use Rattle.angles.specs.Angle.{next_divisor, numerator_at, down}

-- p / q is at most 1
pub record Fraction (p q : ℕ) : Type 0 where
  pub some : 0 < q
  pub most : p ≤ q

pub one_power : (x : ℕ) → x ^ 1 ≡ x
one_power x = pow-suc x 0 ∙ ap (λ (y : ℕ). y * x) (pow-zero x) ∙ one-mul x

-- what a term is divided by is not 0
pub factor_pos : (s k : ℕ) → 0 < (s + 2 * k + 1) * (s + 2 * k + 2)
factor_pos s k = mul-pos (some (s + 2 * k) 0) (some (s + 2 * k) 1)
  where
    some : (x y : ℕ) → 0 < x + suc y
    some x y = omega arith

module _ (s a c : ℕ) (small : a ≤ c) (some : 0 < c) where
  abbrev pub U : ℕ → ℕ
  U k = numerator_at s a c k

  abbrev pub D : ℕ → ℕ
  D k = down s c k

  abbrev pub G : ℕ → ℕ
  G k = next_divisor s c k

  -- the last term is T k / D k
  abbrev pub T : ℕ → ℕ
  T k = a ^ (s + 2 * k)

  G-pos : (k : ℕ) → 0 < G k
  G-pos k = mul-pos (mul-pos some some) (factor_pos s k)

  pub D-pos : (k : ℕ) → 0 < D k
  unfolding down
  D-pos zero = one-le-pow s c some
  D-pos (suc k) = mul-pos (D-pos k) (G-pos k)

  two : (k : ℕ) → s + 2 * k + 2 ≡ s + 2 * suc k
  two k = omega arith

  -- the term after T k
  pub T-next : (k : ℕ) → T (suc k) ≡ T k * (a * a)
  T-next k = ap (λ (x : ℕ). a ^ x) (sym (two k)) ∙ pow-add a (s + 2 * k) 2 ∙ ap (λ (x : ℕ). a ^ (s + 2 * k) * x) (pow-suc a 1 ∙ ap (λ (y : ℕ). y * a) (one_power a))

  -- the terms fall
  T-falls : (k : ℕ) → T (suc k) ≤ T k * G k
  T-falls k =
      let square : a * a ≤ c * c * ((s + 2 * k + 1) * (s + 2 * k + 2)) = le_trans (mul-le-mul small small) (times (c * c) ((s + 2 * k + 1) * (s + 2 * k + 2)) (factor_pos s k)) in
      le_trans (le_of_eq (T-next k)) (mul-le-mul_left (T k) square)
    where
      times : (x n : ℕ) → 0 < n → x ≤ x * n
      times x n h = le_trans (le_of_eq (sym (mul-one x))) (mul-le-mul_left x h)

  -- ---- one term more, taken away after an even number of terms and added after an odd one
  minus : (k : ℕ) → k % 2 ≡ 0 → U (suc k) ≡ U k * G k - T (suc k)
  unfolding numerator_at
  minus k e = ap (λ (t : Bool). cond t (U k * G k - a ^ (s + 2 * k + 2)) (U k * G k + a ^ (s + 2 * k + 2))) (eq-eqb (k % 2) 0 e) ∙ ap (λ (x : ℕ). U k * G k - a ^ x) (two k)

  pub plus : (k : ℕ) → (k % 2 ≡ 0 → ⊥) → U (suc k) ≡ U k * G k + T (suc k)
  unfolding numerator_at
  plus k e = ap (λ (t : Bool). cond t (U k * G k - a ^ (s + 2 * k + 2)) (U k * G k + a ^ (s + 2 * k + 2))) (ne_eqb (k % 2) 0 e) ∙ ap (λ (x : ℕ). U k * G k + a ^ x) (two k)

  turn : (k : ℕ) → k % 2 ≡ 0 → suc k % 2 ≡ 0 → ⊥
  turn k e f = omega arith

  turn' : (k : ℕ) → (k % 2 ≡ 0 → ⊥) → suc k % 2 ≡ 0
  turn' k e = omega arith

  -- an even sum holds its last term
  holds : (k : ℕ) → k % 2 ≡ 0 → T k ≤ U k
  unfolding numerator_at
  holds zero e = le_of_eq (ap (λ (x : ℕ). a ^ x) (none s))
    where
      none : (s : ℕ) → s + 2 * 0 ≡ s
      none s = omega arith
  holds (suc k) e = le_trans (last (U k * G k) (T (suc k))) (le_of_eq (sym (plus k (λ f. turn k f e))))
    where
      last : (x y : ℕ) → y ≤ x + y
      last x y = omega arith

  pub taken : (k : ℕ) → k % 2 ≡ 0 → U (suc k) + T (suc k) ≡ U k * G k
  taken k e = ap (λ (x : ℕ). x + T (suc k)) (minus k e) ∙ back (U k * G k) (T (suc k)) (le_trans (T-falls k) (mul-le-mul_right (G k) (holds k e)))
    where
      back : (x y : ℕ) → y ≤ x → x - y + y ≡ x
      back x y h = omega arith

  -- ---- each sum lies between the two before it
  even_low : (k : ℕ) → k % 2 ≡ 0 → U (suc k) * G (suc k) ≤ U (suc (suc k))
  even_low k e = le_trans (first (U (suc k) * G (suc k)) (T (suc (suc k)))) (le_of_eq (sym (plus (suc k) (turn k e))))
    where
      first : (x y : ℕ) → x ≤ x + y
      first x y = omega arith

  even_high : (k : ℕ) → k % 2 ≡ 0 → U (suc (suc k)) ≤ U k * G k * G (suc k)
  even_high k e =
      all (U (suc k)) (T (suc k)) (U k * G k) (G (suc k)) (U (suc (suc k))) (T (suc (suc k))) (taken k e) (plus (suc k) (turn k e)) (T-falls (suc k))
    where
      all : (u t v g w x : ℕ) → u + t ≡ v → w ≡ u * g + x → x ≤ t * g → w ≤ v * g
      all u t v g w x e f h = let d : (u + t) * g ≡ v * g = ap (λ (y : ℕ). y * g) e in omega arith

  odd_low : (k : ℕ) → (k % 2 ≡ 0 → ⊥) → U k * G k * G (suc k) ≤ U (suc (suc k))
  odd_low k e =
      all (U (suc k)) (T (suc k)) (U k * G k) (G (suc k)) (U (suc (suc k))) (T (suc (suc k))) (plus k e) (taken (suc k) (turn' k e)) (T-falls (suc k))
    where
      all : (u t v g w x : ℕ) → u ≡ v + t → w + x ≡ u * g → x ≤ t * g → v * g ≤ w
      all u t v g w x e f h = let d : u * g ≡ (v + t) * g = ap (λ (y : ℕ). y * g) e in omega arith

  odd_high : (k : ℕ) → (k % 2 ≡ 0 → ⊥) → U (suc (suc k)) ≤ U (suc k) * G (suc k)
  odd_high k e = part (U (suc (suc k))) (T (suc (suc k))) (U (suc k) * G (suc k)) (taken (suc k) (turn' k e))
    where
      part : (x y z : ℕ) → x + y ≡ z → x ≤ z
      part x y z e = omega arith

  parity : (k : ℕ) → (k % 2 ≡ 0) ⊎ (k % 2 ≡ 0 → ⊥)
  parity k = elim (eq-zero-or-pos (k % 2)) [ inl z ↦ inl z | inr p ↦ inr (λ z. lt_irrefl 0 (lt_of_lt_of_le p (le_of_eq z))) ]

  -- ---- all are at most 1
  most : (k : ℕ) → (U k ≤ D k) × (U (suc k) ≤ D (suc k))
  unfolding numerator_at down
  most zero = (pow-le-pow_left small s, le_trans (le_of_eq (minus 0 refl)) (le_trans (fewer (U 0 * G 0) (T 1)) (mul-le-mul_right (G 0) (pow-le-pow_left small s))))
    where
      fewer : (x y : ℕ) → x - y ≤ x
      fewer x y = omega arith
  most (suc k) = let m = most k in (
    m.1,
    elim (parity k) [
      | inl e ↦ le_trans (even_high k e) (mul-le-mul_right (G (suc k)) (mul-le-mul_right (G k) m.0))
      | inr e ↦ le_trans (odd_high k e) (mul-le-mul_right (G (suc k)) m.1)
    ],
  )

  pub fraction : (k : ℕ) → Fraction (U k) (D k)
  fraction k = record { some = D-pos k; most = (most k).0 }

  -- ---- the order of three neighbours
  over : (u v d g : ℕ) → u * g ≤ v → u * (d * g) ≤ v * d
  over u v d g h = let m : u * g * d ≤ v * d = mul-le-mul_right d h in omega arith

  over' : (u v d g : ℕ) → v ≤ u * g → v * d ≤ u * (d * g)
  over' u v d g h = let m : v * d ≤ u * g * d = mul-le-mul_right d h in omega arith

  over₂ : (u v d g h : ℕ) → u * g * h ≤ v → u * (d * g * h) ≤ v * d
  over₂ u v d g h l = let m : u * g * h * d ≤ v * d = mul-le-mul_right d l in omega arith

  over₂' : (u v d g h : ℕ) → v ≤ u * g * h → v * d ≤ u * (d * g * h)
  over₂' u v d g h l = let m : v * d ≤ u * g * h * d = mul-le-mul_right d l in omega arith

  -- the sum i is at most the sum j
  abbrev pub Below : ℕ → ℕ → Type 0
  Below i j = U i * D j ≤ U j * D i

  pub nested : (k : ℕ) → (Below (suc k) (suc (suc k)) × Below (suc (suc k)) k) ⊎ (Below k (suc (suc k)) × Below (suc (suc k)) (suc k))
  unfolding down
  nested k = elim (parity k) [
    | inl p ↦ inl (over (U (suc k)) (U (suc (suc k))) (D (suc k)) (G (suc k)) (even_low k p), over₂' (U k) (U (suc (suc k))) (D k) (G k) (G (suc k)) (even_high k p))
    | inr p ↦ inr (over₂ (U k) (U (suc (suc k))) (D k) (G k) (G (suc k)) (odd_low k p), over' (U (suc k)) (U (suc (suc k))) (D (suc k)) (G (suc k)) (odd_high k p))
  ]
