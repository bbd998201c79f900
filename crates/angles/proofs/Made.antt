-- The coefficients in whole numbers, operation by operation. With cos = C / 2 ^ 24, 1 - cos = v / 2 ^ 24 and alpha = a units: 1 + alpha rounds to p / 2 ^ 23, its inverse to
-- δ / 2 ^ 24, 1 - alpha to μ / 2 ^ 24; a1 is -A / 2 ^ 23, a2 is α / 2 ^ 24, b1 is β₁ / 2 ^ 48, b0 and b2 are β₂ / 2 ^ 48. Each is nearest to what it is made of. Assumes nothing.
use mathlib.Core.Path.{◌≡◌, refl, sym, ap, ap₂, ◌∙◌, subst}
use mathlib.Core.Bool.{true, false}
use Prim.Native.Nat.{ℕ, ◌+◌, ◌-◌, ◌*◌, ◌^◌, ◌≤◌, ◌<◌}
use native.Mathlib.Nat.{le_trans, le_of_eq, lt_of_le_of_lt, mul-one, mul-pos, mul-le-mul, mul-le-mul_left, mul-le-mul_right, le_of_mul-le-mul_right}
use native.Mathlib.Omega.{arith}
use lib.Dec.{lit<, lit≤}
use lib.Pow.{pow-add, pow_pos, pow_mono}
use lib.IntN.{pos, negsuc}
use lib.Ieee.{Float, nan, inf, fin, binary32, fits, add, sub, mul}
use lib.Ieee.Nearest.{closest}
use Rattle.ieee.specs.Small.{absolute}
use Rattle.ieee.specs.Units.{One, Top, mag}
use Rattle.ieee.specs.Bounds.{DifferBy}
use Rattle.ieee.proofs.Grid.{rnd, rnd_ge, rnd_le, rnd_near, rnd_grid, grid_at, grid_pow, closest_near}
use Rattle.ieee.proofs.Closest.{grid_multiple}
use Rattle.ieee.proofs.Value.{one_pos, one_grid}
use Rattle.ieee.proofs.Constants.{one_f32, one_P, one_less}
use Rattle.ieee.proofs.Digits.{Plus, Minus, Gives, closest_least, closest_most, kept, exactly, add_plus, sub_plus, mul_plus, mul_minus, div_plus}
use Rattle.angles.specs.Filter.{alpha_of, divisor_of, b1_of, b2_of}

-- ---- the constants; U is 2 ^ -24 and W is 2 ^ -23
abbrev U : ℕ
U = 2 ^ 125

abbrev W : ℕ
W = 2 ^ 126

pub one_23 : One ≡ 8388608 * 2 ^ 126
unfolding One
one_23 = refl

pub one_24 : One ≡ 16777216 * 2 ^ 125
unfolding One
one_24 = refl

one_plus : Plus (fin false 1 (pos 0)) One
one_plus = record { f32 = one_f32; up = one_P; down = refl }

two_minus : Minus (fin true 1 (pos 1)) (2 * One)
unfolding mag One fits
two_minus = record { f32 = record { fine = tt; fit = tt }; up = refl; down = refl }

half_plus : Plus (fin false 1 (negsuc 0)) (2 ^ 148)
unfolding mag One fits
half_plus = record { f32 = record { fine = tt; fit = tt }; up = refl; down = refl }

-- a size loses its sign
size_plus : (x : Float) {n : ℕ} → Plus x n → Plus (absolute x) n
unfolding absolute mag fits
size_plus nan p = absurd p.f32.fine
size_plus (inf s) p = absurd p.f32.fine
size_plus (fin false m e) p = p
size_plus (fin true m e) p = record { f32 = record { fine = tt; fit = p.f32.fit }; up = p.down ∙ p.up; down = refl }

-- a result from 2 ^ l * 2 ^ -25 to 1.0 is a whole number of 2 ^ -48
record Coarse (l n c : ℕ) : Type 0 where
  β : ℕ
  gives : Gives n c (β * 2 ^ 101)
  least : 2 ^ (l + 23) ≤ β
  most : β * 2 ^ 101 ≤ One
  above : 16777216 * (β * 2 ^ 101 * c) ≤ 16777216 * n + (n + 8388608 * c)

coarse : (l n c : ℕ) → 0 < c → 2 ^ (l + 124) * c ≤ n → n ≤ One * c → Coarse l n c
coarse l n c C h g =
    let low : 2 ^ (l + 124) ≤ rnd n c = rnd_ge (grid_pow (l + 124)) n c C h in
    let x = grid_multiple (rnd n c) 101 (rnd_grid n c) (le_trans (pow_mono {i = 124} {j = l + 124} (omega arith)) low) in
    let top : x.times * 2 ^ 101 ≤ One = le_trans (le_of_eq (sym x.is)) (rnd_le one_grid n c C g) in
    record {
      β = x.times;
      gives = record { is = x.is; less = lt_of_le_of_lt top one_less };
      least = le_of_mul-le-mul_right (le_trans (le_of_eq (sym (pow-add 2 (l + 23) 101) ∙ ap (λ (k : ℕ). 2 ^ k) (turn l))) (le_trans low (le_of_eq x.is))) (pow_pos 101);
      most = top;
      above = subst (λ (k : ℕ). 16777216 * (k * c) ≤ 16777216 * n + (n + 8388608 * c)) x.is (rnd_near n c C).above;
    }
  where
    turn : (l : ℕ) → l + 23 + 101 ≡ l + 124
    turn l = omega arith

-- ---- what is made
pub record Made (cos sin : Float) (C v a : ℕ) : Type 0 where
  pub p : ℕ
  pub δ : ℕ
  pub μ : ℕ
  pub A : ℕ
  pub α : ℕ
  pub β₁ : ℕ
  pub β₂ : ℕ
  pub a1_is : Minus (mul binary32 (mul binary32 (fin true 1 (pos 1)) cos) (divisor_of sin)) (A * 2 ^ 126)
  pub a2_is : Plus (mul binary32 (sub binary32 (fin false 1 (pos 0)) (alpha_of sin)) (divisor_of sin)) (α * 2 ^ 125)
  pub b1_is : Plus (b1_of cos sin) (β₁ * 2 ^ 101)
  pub b2_is : Plus (b2_of cos sin) (β₂ * 2 ^ 101)
  pub p_near : DifferBy (2 * (p * 2 ^ 126)) (2 * (One + a)) (2 ^ 126)
  pub δ-near : DifferBy (2 * (δ * p)) 281474976710656 p
  pub both_near : DifferBy (2 * p + μ) 33554432 1
  pub A-near : DifferBy (2 * (A * 16777216)) (2 * (C * δ)) 16777216
  pub α-near : DifferBy (2 * (α * 16777216)) (2 * (μ * δ)) 16777216
  pub δ-many : δ ≤ 16777216
  pub β₁-above : 16777216 * (1 * β₁) ≤ 16777217 * (v * δ) + 1
  pub β₂-above : 16777216 * (2 * β₂) ≤ 16777217 * β₁ + 1

-- ---- with the sizes of 1 - cos and of alpha
doubled : (o c u : ℕ) → c * (2 * u) * o ≡ 2 * o * (c * u)
doubled o c u = omega arith

split : (u : ℕ) → 2 * u * (16777216 * u) ≡ 4 * u * (8388608 * u)
split u = omega arith

half_most : 2 ^ 148 ≤ One
unfolding One
half_most = lit≤ tt

one_125 : 2 ^ 125 * One ≡ 2 ^ 25 * 2 ^ 101 * 2 ^ 148
unfolding One
one_125 = refl

one_half : One ≡ 2 * 2 ^ 148
unfolding One
one_half = refl

halved : (x h : ℕ) → x * (2 * h) ≡ 2 * (x * h)
halved x h = omega arith

squared : (v d z : ℕ) → v * d * z * (16777216 * (16777216 * z)) ≡ 1 * (v * (16777216 * z) * (d * (16777216 * z)))
squared v d z = omega arith

-- the error of a coarse result, where n is x / k steps of z
in_steps : (β x z o n k : ℕ) → 0 < o → 0 < z → k * 8388608 ≤ z → x * z * o ≡ k * n → 16777216 * (β * z * o) ≤ 16777216 * n + (n + 8388608 * o)
    → 16777216 * (k * β) ≤ 16777217 * x + 1
in_steps β x z o n k O Z s e h = le_of_mul-le-mul_right (le_of_mul-le-mul_right (all (mul-le-mul_left k h) (mul-le-mul_right o s)) O) Z
  where
    all : k * (16777216 * (β * z * o)) ≤ k * (16777216 * n + (n + 8388608 * o)) → k * 8388608 * o ≤ z * o → 16777216 * (k * β) * z * o ≤ (16777217 * x + 1) * z * o
    all a b = omega arith

below_two : 16777215 * W < Top
unfolding Top
below_two = lit< tt

-- alpha is from 1 / 362 to 1 / 8, 1 - cos from 2 ^ -22 to 2 ^ -6
module _ (cos sin : Float) (C v a : ℕ) (cosine : Plus cos (C * 2 ^ 125)) (alpha : Plus (alpha_of sin) a) (whole : C + v ≡ 16777216) (some : 4 ≤ v) (few : v ≤ 262144)
    (low : One ≤ 362 * a) (high : 8 * a ≤ One) where
  -- ---- 1 + alpha
  abbrev p : ℕ
  p = closest (One + a) W

  p_least : 8388609 * W ≤ One + a
  p_least = go One W one_23 low
    where
      go : (o w : ℕ) → o ≡ 8388608 * w → o ≤ 362 * a → 8388609 * w ≤ o + a
      go o w e l = omega arith

  p_most : One + a ≤ 9437184 * W
  p_most = go One W one_23 high
    where
      go : (o w : ℕ) → o ≡ 8388608 * w → 8 * a ≤ o → o + a ≤ 9437184 * w
      go o w e l = omega arith

  p_some : 8388609 ≤ p
  p_some = closest_least (One + a) W 8388609 (pow_pos 126) p_least

  p_few : p ≤ 9437184
  p_few = closest_most (One + a) W 9437184 (pow_pos 126) p_most

  p_pos : 0 < p
  p_pos = omega (arith, p_some)

  sum : Plus (add binary32 (fin false 1 (pos 0)) (alpha_of sin)) (p * W)
  sum =
      add_plus one_plus alpha
      (kept (One + a) 1 (One + a) W 126 (lit< tt) (pow_pos 126) (sym (mul-one ((One + a) * W))) (le_trans (lit≤ tt) p_least) (lt_of_le_of_lt p_most (lit< tt)) (lit≤ tt))

  -- ---- the divisor
  abbrev δ : ℕ
  δ = closest (2 ^ 47) p

  δ-some : 12582912 ≤ δ
  δ-some = closest_least (2 ^ 47) p 12582912 p_pos (omega (arith, p_few))

  δ-many : δ ≤ 16777216
  δ-many = closest_most (2 ^ 47) p 16777216 p_pos (omega (arith, p_some))

  divisor : Plus (divisor_of sin) (δ * U)
  divisor =
      div_plus one_plus sum (mul-pos p_pos (pow_pos 126))
      (kept (One * One) (p * W) (2 ^ 47) p 125 (mul-pos p_pos (pow_pos 126)) p_pos share (omega (arith, p_few)) (omega (arith, p_some)) (lit≤ tt))
    where
      share : One * One * p ≡ 2 ^ 47 * U * (p * W)
      share = ap₂ (λ (x y : ℕ). x * y * p) one_24 one_23 ∙ go U W p
        where
          go : (u w m : ℕ) → 16777216 * u * (8388608 * w) * m ≡ 2 ^ 47 * u * (m * w)
          go u w m = omega arith

  -- ---- 1 - alpha
  abbrev μ : ℕ
  μ = closest (One - a) U

  rest_is : One ≡ a + (One - a)
  rest_is = go One high
    where
      go : (o : ℕ) → 8 * a ≤ o → o ≡ a + (o - a)
      go o h = omega arith

  rest_least : 12582912 * U ≤ One - a
  rest_least = go One U one_24 high
    where
      go : (o u : ℕ) → o ≡ 16777216 * u → 8 * a ≤ o → 12582912 * u ≤ o - a
      go o u e h = omega arith

  rest_most : One - a ≤ 16777215 * U
  rest_most = go One U one_24 low
    where
      go : (o u : ℕ) → o ≡ 16777216 * u → o ≤ 362 * a → o - a ≤ 16777215 * u
      go o u e h = omega arith

  less : Plus (sub binary32 (fin false 1 (pos 0)) (alpha_of sin)) (μ * U)
  less =
      sub_plus one_plus alpha rest_is
      (kept (One - a) 1 (One - a) U 125 (lit< tt) (pow_pos 125) (sym (mul-one ((One - a) * U))) (le_trans (lit≤ tt) rest_least) (lt_of_le_of_lt rest_most (lit< tt)) (lit≤ tt))

  -- the two of them: their errors are at most three halves of 2 ^ -24, and 2 p + μ is whole
  both_near : DifferBy (2 * p + μ) 33554432 1
  both_near =
      let i = closest_near (One + a) W (pow_pos 126) in
      let j = closest_near (One - a) U (pow_pos 125) in
      record {
        above = half p μ (le_of_mul-le-mul_right {k = U} (up p μ One U (One - a) one_24 rest_is i.above j.above) (pow_pos 125));
        below = half' p μ (le_of_mul-le-mul_right {k = U} (down p μ One U (One - a) one_24 rest_is i.below j.below) (pow_pos 125));
      }
    where
      up : (p m o u r : ℕ) → o ≡ 16777216 * u → o ≡ a + r → 2 * (p * (2 * u)) ≤ 2 * (o + a) + 2 * u → 2 * (m * u) ≤ 2 * r + u → 2 * (2 * p + m) * u ≤ 67108867 * u
      up p m o u r e f h k = omega arith

      down : (p m o u r : ℕ) → o ≡ 16777216 * u → o ≡ a + r → 2 * (o + a) ≤ 2 * (p * (2 * u)) + 2 * u → 2 * r ≤ 2 * (m * u) + u → 67108864 * u ≤ (2 * (2 * p + m) + 3) * u
      down p m o u r e f h k = omega arith

      half : (p m : ℕ) → 2 * (2 * p + m) ≤ 67108867 → 2 * p + m ≤ 33554433
      half p m h = omega arith

      half' : (p m : ℕ) → 67108864 ≤ 2 * (2 * p + m) + 3 → 33554432 ≤ 2 * p + m + 1
      half' p m h = omega arith

  -- ---- a product with the divisor
  product : (m i : ℕ) → 12582912 ≤ m → m ≤ 16777215 → i ≤ 126 → Gives (m * 2 ^ i * (δ * U)) One (closest (m * δ) 16777216 * 2 ^ i)
  product m i l h s =
      kept (m * 2 ^ i * (δ * U)) One (m * δ) 16777216 i one_pos (lit< tt) (go m (2 ^ i) δ U ∙ ap (λ (x : ℕ). m * δ * 2 ^ i * x) (sym one_24))
      (le_trans (lit≤ tt) (mul-le-mul l δ-some)) (lt_of_le_of_lt (mul-le-mul h δ-many) (lit< tt)) (omega arith)
    where
      go : (m k d u : ℕ) → m * k * (d * u) * 16777216 ≡ m * d * k * (16777216 * u)
      go m k d u = omega arith

  a2_plus : Plus (mul binary32 (sub binary32 (fin false 1 (pos 0)) (alpha_of sin)) (divisor_of sin)) (closest (μ * δ) 16777216 * U)
  a2_plus =
      mul_plus less divisor
      (product μ 125 (closest_least (One - a) U 12582912 (pow_pos 125) rest_least) (closest_most (One - a) U 16777215 (pow_pos 125) rest_most) (lit≤ tt))

  C-few : C ≤ 16777215
  C-few = omega arith

  twice_minus : Minus (mul binary32 (fin true 1 (pos 1)) cos) (C * W)
  twice_minus =
      mul_minus two_minus cosine
      (subst (λ (n : ℕ). Gives n One (C * W)) (doubled One C U)
      (exactly (grid_at C 126 (le_trans C-few (lit≤ tt))) (lt_of_le_of_lt (mul-le-mul_right W C-few) below_two) One one_pos))

  a1_minus : Minus (mul binary32 (mul binary32 (fin true 1 (pos 1)) cos) (divisor_of sin)) (closest (C * δ) 16777216 * W)
  a1_minus = mul_minus twice_minus divisor (product C 126 (omega arith) C-few (lit≤ tt))

  -- ---- 1 - cos is exact
  one_parts : One ≡ C * U + v * U
  one_parts = one_24 ∙ ap (λ (x : ℕ). x * U) (sym whole) ∙ go C v U
    where
      go : (c v u : ℕ) → (c + v) * u ≡ c * u + v * u
      go c v u = omega arith

  part_most : v * U ≤ One
  part_most = le_trans (mul-le-mul_right U (le_trans few (lit≤ {n = 16777216} tt))) (le_of_eq (sym one_24))

  versed : Plus (sub binary32 (fin false 1 (pos 0)) cos) (v * U)
  versed =
      sub_plus one_plus cosine one_parts
      (subst (λ (n : ℕ). Gives n 1 (v * U)) (mul-one (v * U)) (exactly (grid_at v 125 (le_trans few (lit≤ tt))) (lt_of_le_of_lt part_most one_less) 1 (lit< tt)))

  -- ---- b1 and b2
  divisor_most : δ * U ≤ One
  divisor_most = le_trans (mul-le-mul_right U δ-many) (le_of_eq (sym one_24))

  first : Coarse 2 (v * U * (δ * U)) One
  first =
      let least = mul-le-mul (mul-le-mul_right U some) (mul-le-mul_right U (le_trans (lit≤ {m = 8388608} tt) δ-some)) in
      coarse 2 (v * U * (δ * U)) One one_pos (le_trans (le_of_eq (ap (λ (x : ℕ). W * x) one_24 ∙ split U)) least) (mul-le-mul part_most divisor_most)

  b1_plus : Plus (b1_of cos sin) (first.β * 2 ^ 101)
  b1_plus = mul_plus versed divisor first.gives

  second : Coarse 1 (first.β * 2 ^ 101 * 2 ^ 148) One
  second =
      coarse 1 (first.β * 2 ^ 101 * 2 ^ 148) One one_pos (le_trans (le_of_eq one_125) (mul-le-mul_right (2 ^ 148) (mul-le-mul_right (2 ^ 101) first.least)))
      (mul-le-mul first.most half_most)

  b2_plus : Plus (b2_of cos sin) (second.β * 2 ^ 101)
  b2_plus = mul_plus (size_plus (b1_of cos sin) b1_plus) half_plus second.gives

  first_error : 16777216 * (1 * first.β) ≤ 16777217 * (v * δ) + 1
  first_error =
      let e = ap (λ (x : ℕ). v * δ * 2 ^ 101 * x) one_24 ∙ squared v δ (2 ^ 101) in
      in_steps first.β (v * δ) (2 ^ 101) One (v * U * (δ * U)) 1 one_pos (pow_pos 101) (lit≤ tt) e first.above

  second_error : 16777216 * (2 * second.β) ≤ 16777217 * first.β + 1
  second_error =
      let e = ap (λ (x : ℕ). first.β * 2 ^ 101 * x) one_half ∙ halved (first.β * 2 ^ 101) (2 ^ 148) in
      in_steps second.β first.β (2 ^ 101) One (first.β * 2 ^ 101 * 2 ^ 148) 2 one_pos (pow_pos 101) (lit≤ tt) e second.above

  pub made : Made cos sin C v a
  made = record {
    p = p;
    δ = δ;
    μ = μ;
    A = closest (C * δ) 16777216;
    α = closest (μ * δ) 16777216;
    β₁ = first.β;
    β₂ = second.β;
    a1_is = a1_minus;
    a2_is = a2_plus;
    b1_is = b1_plus;
    b2_is = b2_plus;
    p_near = closest_near (One + a) W (pow_pos 126);
    δ-near = closest_near (2 ^ 47) p p_pos;
    both_near = both_near;
    A-near = closest_near (C * δ) 16777216 (lit< tt);
    α-near = closest_near (μ * δ) 16777216 (lit< tt);
    δ-many = δ-many;
    β₁-above = first_error;
    β₂-above = second_error;
  }
