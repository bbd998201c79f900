-- The gain after the test, on values: with the peak p and a gain g in (0, 1], 0.9 / p where p * g is above 1, and g otherwise. It is in (0, 1], and times any x of size at
-- most p it is in [-1, 1]. The test looks at the rounded product, so that the exact one may be above 1 a little: x * g is at most p * g, and rounding keeps that order.
-- Assumes nothing.
use mathlib.Core.Path.{◌≡◌, refl, sym, ap, ◌∙◌, subst}
use Prim.Native.Nat.{ℕ, zero, suc, ◌+◌, ◌-◌, ◌*◌, ◌≤◌, ◌<◌, zero-le}
use native.Mathlib.Nat.{le_trans, le_of_eq, le_of_lt, lt_of_le_of_lt, lt_of_not-le, lt_irrefl, not-le_of_lt, zero-lt-suc, zero-mul, mul-zero, add-zero, mul_assoc}
use native.Mathlib.Nat.{mul-le-mul_right, mul-le-mul_left}
use native.Mathlib.Omega.{arith}
use mathlib.Core.Bool.{Bool, true, false, not, cond}
use lib.Dec.{T, ltb, ltb→lt, nltb→le, lit<}
use lib.Ieee.{Float, inf, binary32, unlike, lt, mul, div}
use Rattle.ieee.specs.Units.{One, Top, F32, sign, mag, P, N, Gain, Unitary}
use Rattle.ieee.proofs.Grid.{grid_small, rnd, rnd_zero, rnd_le, rnd_mono}
use Rattle.ieee.proofs.Value.{one_pos, one_grid}
use Rattle.ieee.proofs.Constants.{1·0, 0·9, one_f32, one_P, one_less, ninth_f32, ninth_P}
use Rattle.ieee.proofs.Ops.{small, mul_rounds, mul_over, div_rounds}
use Rattle.ieee.proofs.Signed.{at_most, at_least, not_negative, near, mag_is, P-less}
use Rattle.ieee.proofs.Compare.{lt→, nlt→}
use Rattle.limiter.specs.Limiter.{lowered}
use Rattle.limiter.specs.BlockInRange.{Fraction}

top_is : 2097152 * Top ≡ One * One
unfolding Top One
top_is = refl

-- a sample of size at most p, times a gain g, is at most p * g, both rounded
product_under : (x g : Float) (p : ℕ) → F32 x → F32 g → N g ≡ 0 → mag x ≤ p → rnd (p * P g) One < Top
    → F32 (mul binary32 x g) × (P (mul binary32 x g) ≤ rnd (p * P g) One) × (N (mul binary32 x g) ≤ rnd (p * P g) One)
product_under x g p f k n l h =
    let A = P x * P g + N x * N g in
    let B = P x * N g + N x * P g in
    let m = mag_is x in
    let z1 : N x * N g ≡ 0 = ap (λ (v : ℕ). N x * v) n ∙ mul-zero (N x) in
    let z2 : P x * N g ≡ 0 = ap (λ (v : ℕ). P x * v) n ∙ mul-zero (P x) in
    let a : P x * P g ≤ p * P g = mul-le-mul_right (P g) (omega arith) in
    let b : N x * P g ≤ p * P g = mul-le-mul_right (P g) (omega arith) in
    let i : rnd (A - B) One ≤ rnd (p * P g) One = rnd_mono (A - B) One (p * P g) One one_pos one_pos (mul-le-mul_right One (omega arith)) in
    let j : rnd (B - A) One ≤ rnd (p * P g) One = rnd_mono (B - A) One (p * P g) One one_pos one_pos (mul-le-mul_right One (omega arith)) in
    let r = mul_rounds x g f k (record { high = lt_of_le_of_lt i h; deep = lt_of_le_of_lt j h }) in
    (r.f32, le_trans (le_of_eq r.up) i, le_trans (le_of_eq r.down) j)

-- with p * g at most 1 when rounded
pub gained : (x g : Float) (p : ℕ) → F32 x → F32 g → N g ≡ 0 → mag x ≤ p → rnd (p * P g) One ≤ One → Unitary (mul binary32 x g)
gained x g p f k n l h =
    let u = product_under x g p f k n l (lt_of_le_of_lt h one_less) in
    record { f32 = u.0; high = le_trans u.1 h; deep = le_trans u.2 h }

-- of p and g from 0 on, the product is that of the values, rounded
pub record Product (p g : Float) : Type 0 where
  pub f32 : F32 (mul binary32 p g)
  pub is : P (mul binary32 p g) ≡ rnd (P p * P g) One
  pub plus : N (mul binary32 p g) ≡ 0

product_is : (p g : Float) → F32 p → N p ≡ 0 → F32 g → N g ≡ 0 → rnd (P p * P g) One < Top → Product p g
product_is p g f n k z h =
    let y : P p * N g ≡ 0 = ap (λ (v : ℕ). P p * v) z ∙ mul-zero (P p) in
    let x : N p * P g ≡ 0 = ap (λ (v : ℕ). v * P g) n ∙ zero-mul (P g) in
    let w : N p * N g ≡ 0 = ap (λ (v : ℕ). v * N g) n ∙ zero-mul (N g) in
    let A = P p * P g + N p * N g in
    let B = P p * N g + N p * P g in
    let AB : A - B ≡ P p * P g = omega arith in
    let BA : B - A ≡ 0 = omega arith in
    let r = mul_rounds p g f k (record {
      high = subst (λ (v : ℕ). rnd v One < Top) (sym AB) h;
      deep = subst (λ (v : ℕ). rnd v One < Top) (sym BA) (omega (arith, rnd_zero One one_pos, one_less));
    }) in
    record { f32 = r.f32; is = r.up ∙ ap (λ (v : ℕ). rnd v One) AB; plus = not_negative one_pos r (omega arith) }

-- ---- p * g above 1: then p is above 1, so 0.9 / p is in (0, 1]; and p * (0.9 / p) is 0.9 within an error far below 0.1
peak_above : (p g : Float) → F32 p → N p ≡ 0 → Fraction g → T (lt 1·0 (mul binary32 p g)) → One < P p
peak_above p g f n k h = lt_of_not-le bad
  where
    bad : P p ≤ One → ⊥
    bad l =
        let m = mag_is p in
        let t = gained p g One f k.f32 k.plus (omega arith) (rnd_le one_grid (One * P g) One one_pos (mul-le-mul_left One k.most)) in
        let q = lt→ 1·0 (mul binary32 p g) one_f32 t.f32 h in
        let o = one_P in
        let u = t.high in
        omega arith

-- h is a gain in (0, 1] that keeps all up to p within 1
pub record Keeps (p h : Float) : Type 0 where
  pub gain : Gain h
  pub within : rnd (P p * P h) One ≤ One

pub ninth_keeps : (p g : Float) → F32 p → N p ≡ 0 → Fraction g → T (lt 1·0 (mul binary32 p g)) → Keeps p (div binary32 0·9 p)
ninth_keeps p g f n k h =
    let l : One < P p = peak_above p g f n k h in
    let C = P 0·9 in
    let z = div binary32 0·9 p in
    let c = ninth_P in
    let t = top_is in
    let pt : P p < Top = P-less f in
    let pp : 0 < P p = omega (arith, one_pos) in
    let c1 : 8388608 * (C * One) ≡ 7549747 * (One * One) = sym (mul_assoc 8388608 C One) ∙ ap (λ (v : ℕ). v * One) c ∙ mul_assoc 7549747 One One in
    let q : One * One ≤ One * P p = mul-le-mul_left One (le_of_lt l) in
    let r = div_rounds 0·9 p ninth_f32 f pp (small one_grid one_less (C * One) (0 * One) (P p) pp (omega arith) (omega arith)) in
    let i = near pp r (C * One) (omega arith) (omega arith) in
    let zn : N z ≡ 0 = not_negative pp r (omega arith) in
    let zc : N z * P p ≡ 0 = ap (λ (v : ℕ). v * P p) zn ∙ zero-mul (P p) in
    record {
      gain = record { f32 = r.f32; plus = zn; some = at_least pp r (grid_small 1 (lit< tt)) (omega arith); most = at_most pp r one_grid (omega arith) };
      within = rnd_le one_grid (P p * P z) One one_pos (omega (arith, i.above));
    }

-- ---- p * g not above 1: then it has not overflown either
plus_sign : (x : Float) → 0 < P x → sign x ≡ false
plus_sign x = go (sign x)
  where
    go : (s : Bool) → 0 < cond s 0 (mag x) → s ≡ false
    go true h = absurd (lt_irrefl 0 h)
    go false h = refl

below_inf : T (not (lt 1·0 (inf false))) → ⊥
unfolding lt
below_inf h = h

same_keeps : (p g : Float) → F32 p → N p ≡ 0 → Gain g → T (not (lt 1·0 (mul binary32 p g))) → rnd (P p * P g) One ≤ One
same_keeps p g f n k h = go (ltb w Top) (ltb→lt w Top) (nltb→le w Top)
  where
    w : ℕ
    w = rnd (P p * P g) One

    z : Float
    z = mul binary32 p g

    some : (v : ℕ) → v ≡ P p → Top ≤ w → 0 < P p
    some zero e t = absurd (not-le_of_lt (lt_of_le_of_lt
        (le_of_eq (ap (λ (u : ℕ). rnd (u * P g) One) (sym e) ∙ ap (λ (u : ℕ). rnd u One) (zero-mul (P g)) ∙ rnd_zero One one_pos)) (lt_of_le_of_lt zero-le one_less)) t)
    some (suc v) e t = subst (λ (u : ℕ). 0 < u) e (zero-lt-suc v)

    go : (b : Bool) → (T b → w < Top) → (T (not b) → Top ≤ w) → w ≤ One
    go true l q =
        let r = product_is p g f n k.f32 k.plus (l tt) in
        let i = nlt→ 1·0 z one_f32 r.f32 h in
        let o = one_P in
        let zn = r.plus in
        le_trans (le_of_eq (sym r.is)) (omega arith)
    go false l q =
        let m : mag p * mag g ≡ P p * P g = ap (λ (v : ℕ). v * mag g) (mag_is p ∙ ap (λ (v : ℕ). P p + v) n ∙ add-zero (P p))
        ∙ ap (λ (v : ℕ). P p * v) (mag_is g ∙ ap (λ (v : ℕ). P g + v) k.plus ∙ add-zero (P g)) in
        let e : z ≡ inf (unlike (sign p) (sign g)) = mul_over p g f k.f32 (subst (λ (v : ℕ). Top ≤ rnd v One) (sym m) (q tt)) in
        absurd (below_inf (subst (λ (v : Float). T (not (lt 1·0 v)))
        (e ∙ ap (λ (u : Bool). inf (unlike u (sign g))) (plus_sign p (some (P p) refl (q tt))) ∙ ap (λ (u : Bool). inf (unlike false u)) (plus_sign g k.some)) h))

-- ---- both
pub lowered_keeps : (p g : Float) → F32 p → N p ≡ 0 → Gain g → Keeps p (lowered p g)
unfolding lowered
lowered_keeps p g f n k = go (lt 1·0 (mul binary32 p g)) (ninth_keeps p g f n (record { f32 = k.f32; plus = k.plus; most = k.most })) (same_keeps p g f n k)
  where
    go : (b : Bool) → (T b → Keeps p (div binary32 0·9 p)) → (T (not b) → rnd (P p * P g) One ≤ One) → Keeps p (cond b (div binary32 0·9 p) g)
    go true t e = t tt
    go false t e = record { gain = k; within = e tt }

pub kept_within : (p h x : Float) → Keeps p h → F32 x → mag x ≤ P p → Unitary (mul binary32 x h)
kept_within p h x k f l = gained x h (P p) f k.gain.f32 k.gain.plus l k.within

-- ---- the size of a sample given out is at most the peak times the gain, rounded
size_most : (z : Float) (n : ℕ) → P z ≤ n → N z ≤ n → mag z ≤ n
size_most z n = go (sign z)
  where
    go : (s : Bool) → cond s 0 (mag z) ≤ n → cond s (mag z) 0 ≤ n → mag z ≤ n
    go true h l = l
    go false h l = h

pub kept_under : (p h x : Float) → F32 p → N p ≡ 0 → Keeps p h → F32 x → mag x ≤ P p → mag (mul binary32 x h) ≤ mag (mul binary32 p h)
kept_under p h x f n k g l =
    let less = lt_of_le_of_lt k.within one_less in
    let u = product_under x h (P p) g k.gain.f32 k.gain.plus l less in
    let r = product_is p h f n k.gain.f32 k.gain.plus less in
    let m = mag_is (mul binary32 p h) in
    let e = r.is in
    let z = r.plus in
    size_most (mul binary32 x h) (mag (mul binary32 p h)) (le_trans u.1 (omega arith)) (le_trans u.2 (omega arith))
