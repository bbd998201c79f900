-- Nothing overflows: a bound of the format on the exact result bounds the rounded one, since rounding is monotone. No error is counted. `Bounded b x`: x is finite and of size
-- at most b units. Assumes nothing.
use mathlib.Core.Path.{◌≡◌, refl, sym, ap, ◌∙◌, subst}
use mathlib.Core.Logic.{◌⊎◌, ◌↔◌, inl, inr}
use mathlib.Core.Bool.{Bool, true, false, ◌&&◌, ◌||◌}
use Prim.Native.Nat.{ℕ, suc, ◌+◌, ◌*◌, ◌^◌, ◌≤◌, ◌<◌}
use native.Mathlib.Nat.{le_refl, le_trans, le_of_eq, zero-lt-suc, mul_assoc, mul-le-mul}
use native.Mathlib.Omega.{arith}
use lib.Dec.{T}
use lib.Ieee.{Float, nan, inf, fin, binary32, fits, neg, add, mul, lt, le, eq}
use lib.Ieee.Fits.{and_i, and_l, and_r}
pub use Rattle.ieee.specs.Bounds.{Bounded}
use Rattle.ieee.proofs.Grid.{OnGrid, grid_at, grid_zero}
use Rattle.ieee.proofs.Value.{One, one_pos, Top, F32, mag, P, N}
use Rattle.ieee.proofs.Constants.{0·0, zero_f32, zero_mag, top_pos}
use Rattle.ieee.proofs.Ops.{Rounds, small, add_rounds, mul_rounds, neg_f32, neg_P, neg_N}
use Rattle.ieee.proofs.Signed.{at_most, minus_at_most, mag_is, one_sided}
use Rattle.ieee.proofs.Compare.{→le, le→, →eq, eq→}

pub bounded_by : {a b : ℕ} {x : Float} → a ≤ b → Bounded a x → Bounded b x
bounded_by h k = record { f32 = k.f32; most = le_trans k.most h }

pub zero_bounded : (b : ℕ) → Bounded b 0·0
zero_bounded b = record { f32 = zero_f32; most = omega (arith, zero_mag) }

-- what compares as from -b to b is finite and of size at most b's, and the other way round
pub between_bounded : (b x : Float) → F32 b → N b ≡ 0 → T (fits binary32 x) → T (le (neg b) x && le x b) ↔ Bounded (mag b) x
between_bounded b x f n t = (to b x f n t, from)
  where
    to : (b x : Float) → F32 b → N b ≡ 0 → T (fits binary32 x) → T (le (neg b) x && le x b) → Bounded (mag b) x
    to nan x f n t h = absurd f.fine
    to (inf s) x f n t h = absurd f.fine
    to (fin s m e) nan f n t h = absurd (unfold le lt eq neg in h)
    to (fin s m e) (inf true) f n t h = absurd (unfold le lt eq neg in h)
    to (fin s m e) (inf false) f n t h = absurd (unfold le lt eq neg in h)
    to (fin s m e) (fin u k d) f n t h =
        let b = fin s m e in
        let x = fin u k d in
        let g : F32 x = record { fine = tt; fit = t } in
        let i : N x ≤ mag b + P x = omega (arith, le→ (neg b) x (neg_f32 b f) g (and_l (le (neg b) x) (le x b) h), mag_is b, neg_P b f, neg_N b f) in
        let j : P x ≤ mag b + N x = omega (arith, le→ x b g f (and_r (le (neg b) x) (le x b) h), mag_is b) in
        record { f32 = g; most = elim (one_sided x) [ inl z ↦ omega (arith, mag_is x) | inr z ↦ omega (arith, mag_is x) ] }

    from : Bounded (mag b) x → T (le (neg b) x && le x b)
    from k =
        and_i (le (neg b) x) (le x b)
        (→le (neg b) x (neg_f32 b f) k.f32 (omega (arith, k.most, mag_is x, mag_is b, neg_P b f, neg_N b f)))
        (→le x b k.f32 f (omega (arith, k.most, mag_is x, mag_is b)))

-- ---- one operation
pub rounds_bounded : {w c A B : ℕ} {z : Float} → OnGrid w → 0 < c → Rounds z A B c → A ≤ B + w * c → B ≤ A + w * c → Bounded w z
rounds_bounded {w} {c} {A} {B} {z} g C r h k = record { f32 = r.f32; most = go (one_sided z) (at_most C r g h) (minus_at_most C r g k) }
  where
    go : (P z ≡ 0) ⊎ (N z ≡ 0) → P z ≤ w → N z ≤ w → mag z ≤ w
    go (inl e) p n = omega (arith, mag_is z)
    go (inr e) p n = omega (arith, mag_is z)

pub add_bounded : {a b w : ℕ} {x y : Float} → OnGrid w → w < Top → a + b ≤ w → Bounded a x → Bounded b y → Bounded w (add binary32 x y)
add_bounded {a} {b} {w} {x} {y} g l h p q =
    let i : P x + P y ≤ N x + N y + w * 1 = omega (arith, mag_is x, mag_is y, p.most, q.most) in
    let j : N x + N y ≤ P x + P y + w * 1 = omega (arith, mag_is x, mag_is y, p.most, q.most) in
    let c = zero-lt-suc 0 in
    rounds_bounded g c (add_rounds x y p.f32 q.f32 (small g l (P x + P y) (N x + N y) 1 c i j)) i j

pub mul_bounded : {a b w : ℕ} {x y : Float} → OnGrid w → w < Top → a * b ≤ w * One → Bounded a x → Bounded b y → Bounded w (mul binary32 x y)
mul_bounded {a} {b} {w} {x} {y} g l h p q =
    let A = P x * P y + N x * N y in
    let B = P x * N y + N x * P y in
    let e : mag x * mag y ≡ A + B = ap (λ (u : ℕ). u * mag y) (mag_is x) ∙ ap (λ (u : ℕ). (P x + N x) * u) (mag_is y) ∙ spread (P x) (N x) (P y) (N y) in
    let m : mag x * mag y ≤ w * One = le_trans (mul-le-mul p.most q.most) h in
    let i : A ≤ B + w * One = first A B (w * One) (le_trans (le_of_eq (sym e)) m) in
    let j : B ≤ A + w * One = second A B (w * One) (le_trans (le_of_eq (sym e)) m) in
    rounds_bounded g one_pos (mul_rounds x y p.f32 q.f32 (small g l A B One one_pos i j)) i j
  where
    spread : (s t u v : ℕ) → (s + t) * (u + v) ≡ s * u + t * v + (s * v + t * u)
    spread s t u v = omega arith

    first : (s t u : ℕ) → s + t ≤ u → s ≤ t + u
    first s t u h = omega arith

    second : (s t u : ℕ) → s + t ≤ u → t ≤ s + u
    second s t u h = omega arith

-- ---- one term more of a sum whose terms are of size at most b * u, u = 2 ^ j: up to 2 ^ 24 / b terms each partial bound is a value of the format. u comes with an equation,
-- so that `One` can stand for it
module _ (b j : ℕ) {u : ℕ} (is : 2 ^ j ≡ u) where
  pub next_bounded : (n : ℕ) {a x : Float} → suc n * b ≤ 16777216 → suc n * (b * u) < Top → Bounded (n * (b * u)) a → Bounded (b * u) x
      → Bounded (suc n * (b * u)) (add binary32 a x)
  next_bounded n {a} {x} g l p q = add_bounded (subst OnGrid (mul_assoc (suc n) b (2 ^ j) ∙ ap (λ (v : ℕ). suc n * (b * v)) is) (grid_at (suc n * b) j g)) l
      (one_more n (b * u)) p q
    where
      one_more : (n w : ℕ) → n * w + w ≤ suc n * w
      one_more n w = omega arith

-- ---- a product of which one factor is a zero is a zero

bounded_zero : (x : Float) → F32 x → T (eq x 0·0) → Bounded 0 x
bounded_zero x f t =
    let e = eq→ x 0·0 f zero_f32 t in
    elim (one_sided x) [
      | inl p ↦ record { f32 = f; most = omega (arith, mag_is x, mag_is 0·0, zero_mag, e, p) }
      | inr n ↦ record { f32 = f; most = omega (arith, mag_is x, mag_is 0·0, zero_mag, e, n) }
    ]

zero_bounds : (x : Float) → Bounded 0 x → T (eq x 0·0)
zero_bounds x h = →eq x 0·0 h.f32 zero_f32 (omega (arith, mag_is x, mag_is 0·0, zero_mag, h.most))

pub product_zero : (x y : Float) → F32 x → F32 y → T (eq x 0·0 || eq y 0·0) → T (eq (mul binary32 x y) 0·0)
product_zero x y f g t = go (eq x 0·0) refl
  where
    whole : (z : Float) → F32 z → Bounded (mag z) z
    whole z k = record { f32 = k; most = le_refl (mag z) }

    go : (b : Bool) → eq x 0·0 ≡ b → T (eq (mul binary32 x y) 0·0)
    go true e =
        let z = bounded_zero x f (subst T (sym e) tt) in
        zero_bounds (mul binary32 x y) (mul_bounded {a = 0} {b = mag y} grid_zero top_pos (omega arith) z (whole y g))
    go false e =
        let z = bounded_zero y g (subst (λ (b : Bool). T (b || eq y 0·0)) e t) in
        zero_bounds (mul binary32 x y) (mul_bounded {a = mag x} {b = 0} grid_zero top_pos (omega arith) (whole x f) z)
