-- The error of a sum, a difference and a product of f32 values, over ℤ: the bridge from `Rounds` to `ring` and `NN`. `val x` is the exact value of a finite f32 in units of
-- 2 ^ -149. To follow a computation, give each result its integer `val`, take its error from `add_near`, `sub_near` (`Sum`: one part in 2 ^ 24) or `mul_near` (`Near`: that
-- and half a unit), and its size from `sum_size`, `near_size`; each asks that the exact result is at most `most` and then also says that the result is finite. Assumes
-- nothing.
use mathlib.Core.Path.{◌≡◌, refl, sym, ap, ap₂, ◌∙◌, subst}
use mathlib.Core.List.{[], ◌∷◌}
use mathlib.Core.Bool.{Bool, true, false, cond}
use Prim.Native.Nat.{ℕ, ◌+◌, ◌*◌, ◌^◌, ◌≤◌, ◌<◌}
use native.Mathlib.Nat.{le_trans, le_of_eq, mul-le-mul_left, mul-le-mul_right, le_of_mul-le-mul_right, mul_comm, mul-one}
use native.Mathlib.Omega.{arith}
use lib.Dec.{lit<}
use lib.IntN.{ℤ, pos, neg_ℤ, nat_abs, ◌+ℤ◌, ◌-ℤ◌, ◌*ℤ◌, +ℤ_idl}
use lib.Ieee.{Float, binary32, add, sub, mul}
use Rattle.ieee.specs.Bounds.{Bounded}
use Rattle.ieee.proofs.Grid.{grid_pow, DifferBy}
use Rattle.ieee.proofs.Value.{One, Top, F32, sign, mag, P, N, one_pos}
use Rattle.ieee.proofs.Ops.{Rounds, Small, small, add_rounds, sub_rounds, mul_rounds}
use Rattle.ieee.proofs.Digits.{Plus, Minus}
use Rattle.ieee.proofs.Signed.{near, near_whole}
use Rattle.ieee.proofs.Ring.{var, con, ◌⊕◌, ◌⊖◌, ◌⊗◌, neg, ring}
use Rattle.ieee.proofs.NotNegative.{abs_mul, abs_neg, abs_from, gap_above, gap_below, gap_of}

-- the value of a finite f32, in units
abbrev pub val : Float → ℤ
val x = pos (P x) -ℤ pos (N x)

pub abs_val : (x : Float) → nat_abs (val x) ≡ mag x
abs_val x = go (sign x)
  where
    go : (s : Bool) → nat_abs (pos (cond s 0 (mag x)) -ℤ pos (cond s (mag x) 0)) ≡ mag x
    go true = ap nat_abs (+ℤ_idl (neg_ℤ (pos (mag x)))) ∙ abs_neg (pos (mag x))
    go false = omega arith

pub abs_most : {b : ℕ} {x : Float} → Bounded b x → nat_abs (val x) ≤ b
abs_most {b} {x} h = le_trans (le_of_eq (abs_val x)) h.most

pub bounded_abs : {b : ℕ} {x : Float} → F32 x → nat_abs (val x) ≤ b → Bounded b x
bounded_abs {b} {x} f h = record { f32 = f; most = le_trans (le_of_eq (sym (abs_val x))) h }

-- v is z / c, but for one part in 2 ^ 24 and half a unit
pub record Near (v z : ℤ) (c : ℕ) : Type 0 where
  pub near : 16777216 * nat_abs (pos c *ℤ v -ℤ z) ≤ nat_abs z + 8388608 * c

-- v is z, but for one part in 2 ^ 24
pub record Sum (v z : ℤ) : Type 0 where
  pub near : 16777216 * nat_abs (v -ℤ z) ≤ nat_abs z

-- ---- from `Rounds`
-- k times the distance of p c - n c from a - b
distance : (k p n a b c e : ℕ) → DifferBy (k * (p * c + b)) (k * (a + n * c)) e → k * nat_abs (pos c *ℤ (pos p -ℤ pos n) -ℤ (pos a -ℤ pos b)) ≤ e
distance k p n a b c e w =
    le_trans (le_of_eq (sym (abs_mul k (pos c *ℤ (pos p -ℤ pos n) -ℤ (pos a -ℤ pos b))) ∙ ap nat_abs (identity (pos k) (pos p) (pos n) (pos a) (pos b) (pos c))))
    (gap_of (k * (p * c + b)) (k * (a + n * c)) e w.above w.below)
  where
    identity : (k p n a b c : ℤ) → k *ℤ (c *ℤ (p -ℤ n) -ℤ (a -ℤ b)) ≡ k *ℤ (p *ℤ c +ℤ b) -ℤ k *ℤ (a +ℤ n *ℤ c)
    identity k p n a b c =
        let K = var 0 in let p' = var 1 in let n' = var 2 in let a' = var 3 in let b' = var 4 in let c' = var 5 in
        ring (k ∷ p ∷ n ∷ a ∷ b ∷ c ∷ []) (K ⊗ (c' ⊗ (p' ⊖ n') ⊖ (a' ⊖ b'))) (K ⊗ (p' ⊗ c' ⊕ b') ⊖ K ⊗ (a' ⊕ n' ⊗ c')) tt

pub rounds_near : {z : Float} {A B c : ℕ} → 0 < c → Rounds z A B c → Near (val z) (pos A -ℤ pos B) c
rounds_near {z} {A} {B} {c} C r =
    let M = nat_abs (pos A -ℤ pos B) in
    record { near = distance 16777216 (P z) (N z) A B c (M + 8388608 * c) (near C r M (gap_above A B) (gap_below A B)) }

pub rounds_sum : {z : Float} {A B : ℕ} → Rounds z A B 1 → Sum (val z) (pos A -ℤ pos B)
rounds_sum {z} {A} {B} r =
    let M = nat_abs (pos A -ℤ pos B) in
    let w = near_whole r M (gap_above A B) (gap_below A B) in
    let w' : DifferBy (16777216 * (P z * 1 + B)) (16777216 * (A + N z * 1)) M = record { above = omega (arith, w.above); below = omega (arith, w.below) } in
    record { near = le_trans (le_of_eq (ap (λ (v : ℤ). 16777216 * nat_abs (v -ℤ (pos A -ℤ pos B))) (once (val z)))) (distance 16777216 (P z) (N z) A B 1 M w') }
  where
    once : (v : ℤ) → v ≡ pos 1 *ℤ v
    once v = ring (v ∷ []) (var 0) (con (pos 1) ⊗ var 0) tt

-- ---- no overflow: 2 ^ 127, in units
unfoldable pub most : ℕ
most = 2 ^ 276

fine : (A B c : ℕ) → 0 < c → nat_abs (pos A -ℤ pos B) ≤ most * c → Small A B c
unfolding most Top
fine A B c C h = small (grid_pow 276) (lit< tt) A B c C (reach A B (gap_above A B)) (reach B A (gap_below A B))
  where
    reach : (a b : ℕ) → a ≤ b + nat_abs (pos A -ℤ pos B) → a ≤ b + 2 ^ 276 * c
    reach a b k = le_trans k (native.Mathlib.Nat.add-le-add (native.Mathlib.Nat.le_refl b) h)

-- ---- the sum and the difference
pub add_near : {x y : Float} → F32 x → F32 y → nat_abs (val x +ℤ val y) ≤ most → F32 (add binary32 x y) × Sum (val (add binary32 x y)) (val x +ℤ val y)
add_near {x} {y} f g h =
    let e : val x +ℤ val y ≡ pos (P x + P y) -ℤ pos (N x + N y) = regroup (pos (P x)) (pos (N x)) (pos (P y)) (pos (N y)) in
    let r = add_rounds x y f g (fine (P x + P y) (N x + N y) 1 (lit< tt) (le_trans (le_of_eq (sym (ap nat_abs e))) (le_trans h (le_of_eq (sym (mul-one most)))))) in
    (r.f32, subst (λ (z : ℤ). Sum (val (add binary32 x y)) z) (sym e) (rounds_sum r))
  where
    regroup : (a b c d : ℤ) → (a -ℤ b) +ℤ (c -ℤ d) ≡ (a +ℤ c) -ℤ (b +ℤ d)
    regroup a b c d = ring (a ∷ b ∷ c ∷ d ∷ []) ((var 0 ⊖ var 1) ⊕ (var 2 ⊖ var 3)) ((var 0 ⊕ var 2) ⊖ (var 1 ⊕ var 3)) tt

pub sub_near : {x y : Float} → F32 x → F32 y → nat_abs (val x -ℤ val y) ≤ most → F32 (sub binary32 x y) × Sum (val (sub binary32 x y)) (val x -ℤ val y)
sub_near {x} {y} f g h =
    let e : val x -ℤ val y ≡ pos (P x + N y) -ℤ pos (N x + P y) = regroup (pos (P x)) (pos (N x)) (pos (P y)) (pos (N y)) in
    let r = sub_rounds x y f g (fine (P x + N y) (N x + P y) 1 (lit< tt) (le_trans (le_of_eq (sym (ap nat_abs e))) (le_trans h (le_of_eq (sym (mul-one most)))))) in
    (r.f32, subst (λ (z : ℤ). Sum (val (sub binary32 x y)) z) (sym e) (rounds_sum r))
  where
    regroup : (a b c d : ℤ) → (a -ℤ b) -ℤ (c -ℤ d) ≡ (a +ℤ d) -ℤ (b +ℤ c)
    regroup a b c d = ring (a ∷ b ∷ c ∷ d ∷ []) ((var 0 ⊖ var 1) ⊖ (var 2 ⊖ var 3)) ((var 0 ⊕ var 3) ⊖ (var 1 ⊕ var 2)) tt

-- ---- the product
-- x is a / c
pub record Ratio (x : Float) (a : ℤ) (c : ℕ) : Type 0 where
  pub f32 : F32 x
  pub is : pos c *ℤ val x ≡ a *ℤ pos One

-- from n * u units, where c * u is 1.0
pub plus_ratio : {x : Float} (n u c : ℕ) → One ≡ c * u → Plus x (n * u) → Ratio x (pos n) c
plus_ratio {x} n u c o p = record {
  f32 = p.f32;
  is = ap₂ (λ (i j : ℕ). pos c *ℤ (pos i -ℤ pos j)) p.up p.down ∙ go (pos c) (pos n) (pos u) ∙ ap (λ (k : ℕ). pos n *ℤ pos k) (sym o);
}
  where
    go : (c n u : ℤ) → c *ℤ (n *ℤ u -ℤ pos 0) ≡ n *ℤ (c *ℤ u)
    go c n u = ring (c ∷ n ∷ u ∷ []) (var 0 ⊗ (var 1 ⊗ var 2 ⊖ con (pos 0))) (var 1 ⊗ (var 0 ⊗ var 2)) tt

pub minus_ratio : {x : Float} (n u c : ℕ) → One ≡ c * u → Minus x (n * u) → Ratio x (neg_ℤ (pos n)) c
minus_ratio {x} n u c o p = record {
  f32 = p.f32;
  is = ap₂ (λ (i j : ℕ). pos c *ℤ (pos i -ℤ pos j)) p.up p.down ∙ go (pos c) (pos n) (pos u) ∙ ap (λ (k : ℕ). neg_ℤ (pos n) *ℤ pos k) (sym o);
}
  where
    go : (c n u : ℤ) → c *ℤ (pos 0 -ℤ n *ℤ u) ≡ neg_ℤ n *ℤ (c *ℤ u)
    go c n u = ring (c ∷ n ∷ u ∷ []) (var 0 ⊗ (con (pos 0) ⊖ var 1 ⊗ var 2)) (neg (var 1) ⊗ (var 0 ⊗ var 2)) tt

-- c p = a u, and so are the products with y
scaled : (p a y : ℤ) (c u : ℕ) → pos c *ℤ p ≡ a *ℤ pos u → c * nat_abs (p *ℤ y) ≡ nat_abs (a *ℤ y) * u
scaled p a y c u e =
    sym (abs_mul c (p *ℤ y)) ∙ ap nat_abs (left (pos c) p y ∙ ap (λ (z : ℤ). z *ℤ y) e ∙ right a (pos u) y) ∙ abs_mul u (a *ℤ y) ∙ mul_comm u (nat_abs (a *ℤ y))
  where
    left : (c p y : ℤ) → c *ℤ (p *ℤ y) ≡ c *ℤ p *ℤ y
    left c p y = ring (c ∷ p ∷ y ∷ []) (var 0 ⊗ (var 1 ⊗ var 2)) (var 0 ⊗ var 1 ⊗ var 2) tt

    right : (a u y : ℤ) → a *ℤ u *ℤ y ≡ u *ℤ (a *ℤ y)
    right a u y = ring (a ∷ u ∷ y ∷ []) (var 0 ⊗ var 1 ⊗ var 2) (var 1 ⊗ (var 0 ⊗ var 2)) tt

-- the fraction p y / u is a y / c
rescale : (v p a y : ℤ) (c u : ℕ) → 0 < u → pos c *ℤ p ≡ a *ℤ pos u → Near v (p *ℤ y) u → Near v (a *ℤ y) c
rescale v p a y c u U e n =
    let d = nat_abs (pos u *ℤ v -ℤ p *ℤ y) in
    let d' = nat_abs (pos c *ℤ v -ℤ a *ℤ y) in
    let i : c * d ≡ d' * u = sym (abs_mul c (pos u *ℤ v -ℤ p *ℤ y)) ∙ ap nat_abs
    (left (pos c) (pos u) v p y ∙ ap (λ (z : ℤ). pos c *ℤ (pos u *ℤ v) -ℤ z *ℤ y) e ∙ right (pos c) (pos u) v a y) ∙ abs_mul u (pos c *ℤ v -ℤ a *ℤ y) ∙ mul_comm u d' in
    let j : c * nat_abs (p *ℤ y) ≡ nat_abs (a *ℤ y) * u = scaled p a y c u e in
    record {
      near = le_of_mul-le-mul_right {k = u}
          (fit (nat_abs (p *ℤ y)) (nat_abs (a *ℤ y)) d d' (c * d) (d' * u) (c * nat_abs (p *ℤ y)) i j refl refl refl (mul-le-mul_left c n.near)) U;
    }
  where
    left : (c u v p y : ℤ) → c *ℤ (u *ℤ v -ℤ p *ℤ y) ≡ c *ℤ (u *ℤ v) -ℤ c *ℤ p *ℤ y
    left c u v p y = ring (c ∷ u ∷ v ∷ p ∷ y ∷ []) (var 0 ⊗ (var 1 ⊗ var 2 ⊖ var 3 ⊗ var 4)) (var 0 ⊗ (var 1 ⊗ var 2) ⊖ var 0 ⊗ var 3 ⊗ var 4) tt

    right : (c u v a y : ℤ) → c *ℤ (u *ℤ v) -ℤ a *ℤ u *ℤ y ≡ u *ℤ (c *ℤ v -ℤ a *ℤ y)
    right c u v a y = ring (c ∷ u ∷ v ∷ a ∷ y ∷ []) (var 0 ⊗ (var 1 ⊗ var 2) ⊖ var 3 ⊗ var 1 ⊗ var 4) (var 1 ⊗ (var 0 ⊗ var 2 ⊖ var 3 ⊗ var 4)) tt

    fit : (m m' d d' cd du cm : ℕ) → cd ≡ du → cm ≡ m' * u → c * d ≡ cd → d' * u ≡ du → c * m ≡ cm → c * (16777216 * d) ≤ c * (m + 8388608 * u)
        → 16777216 * d' * u ≤ (m' + 8388608 * c) * u
    fit m m' d d' cd du cm e₁ e₂ e₃ e₄ e₅ h = omega arith

pub mul_near : {x y : Float} {a : ℤ} {c : ℕ} → 0 < c → Ratio x a c → F32 y → nat_abs (a *ℤ val y) ≤ most * c → F32 (mul binary32 x y) × Near (val (mul binary32 x y)) (a *ℤ val y) c
mul_near {x} {y} {a} {c} C q g h =
    let A = P x * P y + N x * N y in
    let B = P x * N y + N x * P y in
    let e : val x *ℤ val y ≡ pos A -ℤ pos B = expand (pos (P x)) (pos (N x)) (pos (P y)) (pos (N y)) in
    let k : nat_abs (pos A -ℤ pos B) ≤ most * One = subst (λ (z : ℤ). nat_abs z ≤ most * One) e (le_of_mul-le-mul_right {k = c}
    (fit (nat_abs (val x *ℤ val y)) (nat_abs (a *ℤ val y)) most One (scaled (val x) a (val y) c One q.is) (mul-le-mul_right One h)) C) in
    let r = mul_rounds x y q.f32 g (fine A B One one_pos k) in
    (r.f32, rescale (val (mul binary32 x y)) (val x) a (val y) c One one_pos q.is (subst (λ (z : ℤ). Near (val (mul binary32 x y)) z One) (sym e) (rounds_near one_pos r)))
  where
    expand : (a b c d : ℤ) → (a -ℤ b) *ℤ (c -ℤ d) ≡ (a *ℤ c +ℤ b *ℤ d) -ℤ (a *ℤ d +ℤ b *ℤ c)
    expand a b c d = ring (a ∷ b ∷ c ∷ d ∷ []) ((var 0 ⊖ var 1) ⊗ (var 2 ⊖ var 3)) ((var 0 ⊗ var 2 ⊕ var 1 ⊗ var 3) ⊖ (var 0 ⊗ var 3 ⊕ var 1 ⊗ var 2)) tt

    fit : (m m' w u : ℕ) → c * m ≡ m' * u → m' * u ≤ w * c * u → m * c ≤ w * u * c
    fit m m' w u e h = omega arith

-- ---- how large a result is
pub sum_size : (v z : ℤ) (k X : ℕ) → Sum v z → nat_abs z ≤ k * X → k ≤ 16777216 → nat_abs v ≤ k * X + X
sum_size v z k X s h l = fit (nat_abs v) (nat_abs (v -ℤ z)) (nat_abs z) (k * X) (abs_from v z) s.near h (mul-le-mul_right X l)
  where
    fit : (v e z kX : ℕ) → v ≤ e + z → 16777216 * e ≤ z → z ≤ kX → kX ≤ 16777216 * X → v ≤ kX + X
    fit v e z kX e₁ e₂ e₃ e₄ = omega arith

pub near_size : (v z : ℤ) (c Z : ℕ) → 0 < c → Near v z c → nat_abs z ≤ Z * c → 1 ≤ Z → nat_abs v ≤ 2 * Z
near_size v z c Z h s b l =
    le_of_mul-le-mul_right {k = c} (fit (nat_abs v) (nat_abs (pos c *ℤ v)) (nat_abs (pos c *ℤ v -ℤ z)) (nat_abs z) (abs_mul c v) (abs_from (pos c *ℤ v) z) s.near b
    (mul-le-mul_right c l)) h
  where
    fit : (v cv e z : ℕ) → cv ≡ c * v → cv ≤ e + z → 16777216 * e ≤ z + 8388608 * c → z ≤ Z * c → 1 * c ≤ Z * c → v * c ≤ 2 * Z * c
    fit v cv e z e₁ e₂ e₃ e₄ e₅ = omega arith
