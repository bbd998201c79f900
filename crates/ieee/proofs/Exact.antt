-- Operations that change nothing, or only the sign, as equations of floats, the sign of a zero with them: x * 1.0 is x, 0.0 + y is y, 0.0 - x is -x, x - x is 0,
-- x * 0.0 is a zero of x's sign. Assumes nothing.
use mathlib.Core.Path.{◌≡◌, refl, sym, ap, ◌∙◌, subst}
use mathlib.Core.Logic.{◌⊎◌, inl, inr}
use Prim.Native.Nat.{ℕ, zero, suc, ◌+◌, ◌-◌, ◌*◌, ◌^◌, ◌<◌}
use native.Mathlib.Nat.{zero-lt-suc, mul-pos, mul-zero}
use native.Mathlib.Numerals.{unary_clauses}
use native.Mathlib.Omega.{arith}
use mathlib.Core.Bool.{Bool, true, false, ◌&&◌}
use lib.IntN.{ℤ, pos, negsuc}
use lib.Dec.{T, eqb→eq}
use lib.Ieee.{Float, nan, inf, fin, binary32, unlike, fits, neg, add, sub, mul, sum, round, lt, eq}
use lib.Ieee.Scale.{finite}
use lib.Ieee.Positive.{den, first_pos}
use lib.Ieee.Fits.{up_pos}
use Rattle.ieee.proofs.Grid.{rnd, rnd_zero, rnd_exact}
use Rattle.ieee.proofs.Value.{One, one_pos, Top, F32, sign, mag, P, N, shape, Is}
use Rattle.ieee.proofs.Constants.{0·0, 1·0, zero_f32, one_f32, zero_mag, one_P, top_pos}
use Rattle.ieee.proofs.Unique.{same_value, is_same}
use Rattle.ieee.proofs.Ops.{add_rounds, sub_rounds, mul_round, sub_open, neg_f32, neg_P, neg_N}
use Rattle.ieee.proofs.Signed.{P-grid, N-grid, P-less, N-less, mag_is, one_sided}
use Rattle.ieee.proofs.Compare.{→eq}

-- a parameter or an element of a slice is known to fit by an equation
pub fine : (x : Float) → fits binary32 x ≡ true → T (finite x) → F32 x
fine x e t = record { fine = t; fit = subst T (sym e) tt }

-- the sign of a product with a positive number
like : (s : Bool) → unlike s false ≡ s
like false = refl
like true = refl

pub mul_one : (x : Float) → fits binary32 x ≡ true → mul binary32 x 1·0 ≡ x
mul_one nan h = unfold mul in refl
mul_one (inf false) h = unfold mul in refl
mul_one (inf true) h = unfold mul in refl
mul_one (fin s m e) h =
    let x = fin s m e in
    let f = fine x h tt in
    let r : rnd (mag x * mag 1·0) One ≡ mag x = ap (λ (k : ℕ). rnd (mag x * k) One) one_P ∙ rnd_exact (shape x f).grid One one_pos in
    let i = mul_round s false m e 1 (pos 0) (shape x f) (shape 1·0 one_f32) (subst (λ (k : ℕ). k < Top) (sym r) (shape x f).less) in
    is_same f (record { f32 = i.f32; signed = i.signed ∙ like s; size = i.size ∙ r })

-- ---- 0 + y is y
one_of : (x : Float) → F32 x → (rnd (P x - N x) 1 ≡ P x) × (rnd (N x - P x) 1 ≡ N x)
one_of x f = go (one_sided x)
  where
    exact : (a b c : ℕ) → c ≡ 0 → a - c ≡ a * 1
    exact a b c e = omega arith

    none : (a c : ℕ) → c ≡ 0 → c - a ≡ 0
    none a c e = omega arith

    go : (P x ≡ 0) ⊎ (N x ≡ 0) → (rnd (P x - N x) 1 ≡ P x) × (rnd (N x - P x) 1 ≡ N x)
    go (inl e) = (
      ap (λ (k : ℕ). rnd k 1) (none (N x) (P x) e) ∙ rnd_zero 1 (zero-lt-suc 0) ∙ sym e,
      ap (λ (k : ℕ). rnd k 1) (exact (N x) 0 (P x) e)
          ∙ rnd_exact (N-grid f) 1 (zero-lt-suc 0),
    )
    go (inr e) = (
      ap (λ (k : ℕ). rnd k 1) (exact (P x) 0 (N x) e) ∙ rnd_exact (P-grid f) 1 (zero-lt-suc 0),
      ap (λ (k : ℕ). rnd k 1) (none (P x) (N x) e)
          ∙ rnd_zero 1 (zero-lt-suc 0) ∙ sym e,
    )

zero_add_rounds : (y : Float) → F32 y → (F32 (add binary32 0·0 y)) × (P (add binary32 0·0 y) ≡ P y) × (N (add binary32 0·0 y) ≡ N y)
zero_add_rounds y f =
    let o = one_of y f in
    let p : P 0·0 + P y - (N 0·0 + N y) ≡ P y - N y = omega (arith, zero_mag) in
    let n : N 0·0 + N y - (P 0·0 + P y) ≡ N y - P y = omega (arith, zero_mag) in
    let hp : rnd (P 0·0 + P y - (N 0·0 + N y)) 1 ≡ P y = ap (λ (k : ℕ). rnd k 1) p ∙ o.0 in
    let hn : rnd (N 0·0 + N y - (P 0·0 + P y)) 1 ≡ N y = ap (λ (k : ℕ). rnd k 1) n ∙ o.1 in
    let r = add_rounds 0·0 y zero_f32 f (record { high = subst (λ (k : ℕ). k < Top) (sym hp) (P-less f); deep = subst (λ (k : ℕ). k < Top) (sym hn) (N-less f) }) in
    (r.f32, r.up ∙ hp, r.down ∙ hn)

pub zero_add : (y : Float) → F32 y → 0 < mag y → add binary32 0·0 y ≡ y
zero_add y f h = let r = zero_add_rounds y f in same_value y (add binary32 0·0 y) f r.0 r.1 r.2 h

-- ---- 0 - x is -x, but +0 for either zero
pub zero_minus : (x : Float) → F32 x → 0 < mag x → sub binary32 0·0 x ≡ neg x
zero_minus x f h =
    let m : mag (neg x) ≡ mag x = mag_is (neg x) ∙ omega (arith, neg_P x f, neg_N x f, mag_is x) in
    sub_open 0·0 x ∙ zero_add (neg x) (neg_f32 x f) (subst (λ (k : ℕ). 0 < k) (sym m) h)

-- a zero has one exponent
pub zero_form : (s : Bool) (e : ℤ) → fits binary32 (fin s zero e) ≡ true → e ≡ pos 0
unfolding fits
zero_form s (pos zero) h = refl
zero_form s (pos (suc k)) h = absurd (bad (2 ^ k) (simp unary_clauses at (eqb→eq (2 ^ suc k * 1) 1 (subst T (sym h) tt))))
  where
    bad : (p : ℕ) → p * 2 * 1 ≡ 1 → ⊥
    bad p e = omega arith
zero_form s (negsuc k) h = absurd (bad (2 ^ k) (simp unary_clauses at (eqb→eq (1 * 2 ^ suc k) 1 (subst T (sym h) tt))))
  where
    bad : (p : ℕ) → 1 * (p * 2) ≡ 1 → ⊥
    bad p e = omega arith

pub zero_minus_zero : (s : Bool) → sub binary32 0·0 (fin s 0 (pos 0)) ≡ 0·0
unfolding sub add neg sum round
zero_minus_zero false = refl
zero_minus_zero true = refl

pub zero_not_above : (s : Bool) → lt 0·0 (fin s 0 (pos 0)) ≡ false
unfolding lt
zero_not_above false = refl
zero_not_above true = refl

pub mag_pos : (s : Bool) (m : ℕ) (e : ℤ) → F32 (fin s (suc m) e) → 0 < mag (fin s (suc m) e)
mag_pos s m e f = let x = fin s (suc m) e in first_pos (mag x) (den x) (subst (λ (k : ℕ). 0 < k) (shape x f).value (mul-pos (mul-pos (zero-lt-suc m) (up_pos e)) one_pos))

-- ---- x - x is 0 where x is finite, and a NaN otherwise
pub less_itself : (x : Float) → F32 x → T (eq (sub binary32 x x) 0·0)
less_itself x f =
    let z = zero_mag in
    let a : P x + N x - (N x + P x) ≡ 0 = omega arith in
    let b : N x + P x - (P x + N x) ≡ 0 = omega arith in
    let ha : rnd (P x + N x - (N x + P x)) 1 ≡ 0 = ap (λ (k : ℕ). rnd k 1) a ∙ rnd_zero 1 (zero-lt-suc 0) in
    let hb : rnd (N x + P x - (P x + N x)) 1 ≡ 0 = ap (λ (k : ℕ). rnd k 1) b ∙ rnd_zero 1 (zero-lt-suc 0) in
    let r = sub_rounds x x f f (record { high = subst (λ (k : ℕ). k < Top) (sym ha) top_pos; deep = subst (λ (k : ℕ). k < Top) (sym hb) top_pos }) in
    →eq (sub binary32 x x) 0·0 r.f32 zero_f32 (omega (arith, r.up ∙ ha, r.down ∙ hb))

pub inf_less_itself : (s : Bool) → sub binary32 (inf s) (inf s) ≡ nan
unfolding sub add neg
inf_less_itself false = refl
inf_less_itself true = refl

-- ---- zeros of either sign

zero_is : (s : Bool) → Is (fin s 0 (pos 0)) s 0
unfolding fits mag One
zero_is false = record { f32 = record { fine = tt; fit = tt }; signed = refl; size = refl }
zero_is true = record { f32 = record { fine = tt; fit = tt }; signed = refl; size = refl }

pub times_zero : (x : Float) → F32 x → mul binary32 x 0·0 ≡ fin (sign x) 0 (pos 0)
times_zero nan f = absurd f.fine
times_zero (inf s) f = absurd f.fine
times_zero (fin s m e) f =
    let x = fin s m e in
    let z = zero_is s in
    let r : rnd (mag x * mag 0·0) One ≡ 0 = ap (λ (k : ℕ). rnd (mag x * k) One) zero_mag ∙ ap (λ (k : ℕ). rnd k One) (mul-zero (mag x)) ∙ rnd_zero One one_pos in
    let i = mul_round s false m e 0 (pos 0) (shape x f) (shape 0·0 zero_f32) (subst (λ (k : ℕ). k < Top) (sym r) top_pos) in
    is_same z.f32 (record { f32 = i.f32; signed = i.signed ∙ like s; size = i.size ∙ r ∙ sym z.size })

-- two zeros add up to -0 only where both are -0
pub add_zeros : (s t : Bool) → add binary32 (fin s 0 (pos 0)) (fin t 0 (pos 0)) ≡ fin (s && t) 0 (pos 0)
unfolding add sum round
add_zeros false false = refl
add_zeros false true = refl
add_zeros true false = refl
add_zeros true true = refl
