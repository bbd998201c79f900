-- The bits of a finite f32, by its size in units: without the sign they say the size, and are in its order. Assumes nothing.
use mathlib.Core.Path.{◌≡◌, refl, sym, ap, ◌∙◌, subst, subst₂}
use mathlib.Core.Logic.{◌↔◌, inl, inr}
use mathlib.Core.Bool.{Bool, true, false, not, cond}
use Prim.Native.Nat.{ℕ, suc, ◌+◌, ◌-◌, ◌*◌, ◌/◌, ◌%◌, ◌^◌, ◌≤◌, ◌<◌}
use native.Mathlib.Nat.{le_trans, le_of_eq, le_of_lt, le_antisymm, eq-or-lt_of_le}
use native.Mathlib.Nat.{zero-add, add_assoc, mul-div_cancel, mul-le-mul_right, div-one, le-div_iff_mul-le, pow-succ'}
use native.Mathlib.Omega.{arith}
use borrow.Author.Tests.{lt-ltb, le-ltb}
use lib.Dec.{T, lit<, lit≤}
use lib.Pow.{pow-add, pow_pos, shl_lt, shr_mono}
use lib.Ieee.{Float, nan, inf, fin, binary32, size, fits, is_nan, to_bits, of_bits}
use lib.Ieee.Bits.{of_bits-to_bits}
use lib.Ieee.Fits.{kept-lt}
use lib.Ieee.Scale.{finite}
use lib.Ieee.Digits.{size-le, size_reaches}
use Rattle.ieee.specs.Units.{One, Top, F32, sign, mag}
use Rattle.ieee.specs.FloatBits.{units_of}
use Rattle.ieee.specs.Bounds.{Bounded}
use Rattle.ieee.proofs.Grid.{OnGrid, le_or_lt, size_mono, full_grid}
use Rattle.ieee.proofs.Closest.{size_at}
use Rattle.ieee.proofs.Value.{Is, shape}

-- the bits of a size of n units, the sign left out: how many digits are dropped, and the 24 that are kept
abbrev pub pattern : ℕ → ℕ
pattern n = (size n - 24) * 8388608 + n / 2 ^ (size n - 24)

pub to_bits_is : (x : Float) → T (finite x) → to_bits binary32 x ≡ cond (sign x) 2147483648 0 + pattern (mag x)
unfolding to_bits mag One
to_bits_is nan f = absurd f
to_bits_is (inf s) f = absurd f
to_bits_is (fin s m e) f = add_assoc _ _ _

-- ---- from the size to the bits
-- a number of 24 digits and k zeros
digits_size : (q k : ℕ) → 8388608 ≤ q → q < 16777216 → size (q * 2 ^ k) ≡ 24 + k
digits_size q k l h = size_at (q * 2 ^ k) k (le_trans (le_of_eq (pow-add 2 23 k)) (mul-le-mul_right (2 ^ k) l)) (shl_lt 24 k h)

pattern_at : (q k : ℕ) → 8388608 ≤ q → q < 16777216 → pattern (q * 2 ^ k) ≡ k * 8388608 + q
pattern_at q k l h =
    let z = digits_size q k l h in
    let y : size (q * 2 ^ k) - 24 ≡ k = omega arith in
    ap (λ (j : ℕ). j * 8388608 + q * 2 ^ k / 2 ^ j) y ∙ ap (λ (x : ℕ). k * 8388608 + x) (mul-div_cancel q (pow_pos k))

pattern_of : (q k : ℕ) → 8388608 ≤ q → q ≤ 16777216 → pattern (q * 2 ^ k) ≡ k * 8388608 + q
pattern_of q k l h = elim (eq-or-lt_of_le h) [
  | inr g ↦ pattern_at q k l g
  | inl e ↦ ap pattern (ap (λ (x : ℕ). x * 2 ^ k) e ∙ half k) ∙ pattern_at 8388608 (suc k) (lit≤ tt) (lit< tt) ∙ carry q k e
]
  where
    half : (k : ℕ) → 16777216 * 2 ^ k ≡ 8388608 * 2 ^ suc k
    half k = let e : 2 ^ suc k ≡ 2 * 2 ^ k = pow-succ' 2 k in omega arith

    carry : (q k : ℕ) → q ≡ 16777216 → suc k * 8388608 + 8388608 ≡ k * 8388608 + q
    carry q k e = omega arith

pub of_size : (x : Float) (q k : ℕ) → Is x false (q * 2 ^ k) → 8388608 ≤ q → q ≤ 16777216 → x ≡ of_bits binary32 (k * 8388608 + q)
of_size x q k i l h =
    sym (of_bits-to_bits binary32 x i.f32.fit)
    ∙ ap (of_bits binary32)
    (to_bits_is x i.f32.fine ∙ ap (λ (s : Bool). cond s 2147483648 0 + pattern (mag x)) i.signed ∙ zero-add (pattern (mag x)) ∙ ap pattern i.size ∙ pattern_of q k l h)

-- ---- from the bits to the size
pub record Read (n b : ℕ) : Type 0 where
  pub units : n ≡ units_of b
  pub less : b < 2139095040

small_read : (n : ℕ) → n < 8388608 → Read n (pattern n)
small_read n h =
    let l : size n ≤ 23 = size-le n 23 h in
    let z : size n - 24 ≡ 0 = omega arith in
    let e : pattern n ≡ n = ap (λ (k : ℕ). k * 8388608 + n / 2 ^ k) z ∙ zero-add (n / 1) ∙ div-one n in
    subst (Read n) (sym e) (record { units = sym (ap (λ (t : Bool). cond t n ((8388608 + n % 8388608) * 2 ^ (n / 8388608 - 1))) (lt-ltb n 8388608 h)); less = omega arith })

large_read : (q k : ℕ) → 8388608 ≤ q → q < 16777216 → q * 2 ^ k ≡ units_of (k * 8388608 + q)
large_read q k l h =
    let b = k * 8388608 + q in
    let e : b / 8388608 - 1 ≡ k = omega arith in
    let d : 8388608 + b % 8388608 ≡ q = omega arith in
    sym (ap (λ (t : Bool). cond t b ((8388608 + b % 8388608) * 2 ^ (b / 8388608 - 1))) (le-ltb b 8388608 (omega arith))
    ∙ ap (λ (x : ℕ). (8388608 + b % 8388608) * 2 ^ x) e ∙ ap (λ (x : ℕ). x * 2 ^ k) d)

read : (n : ℕ) → OnGrid n → n < 2 ^ 277 → Read n (pattern n)
read n g h = elim (le_or_lt 8388608 n) [ inr l ↦ small_read n l | inl l ↦ many l ]
  where
    many : 8388608 ≤ n → Read n (pattern n)
    many l =
        let d = full_grid n g l in
        let z : size n ≡ 24 + d.j = ap size d.is ∙ digits_size d.q d.j d.low d.high in
        let y : size n ≤ 277 = size-le n 277 h in
        subst₂ Read (sym d.is) (sym (ap pattern d.is ∙ pattern_at d.q d.j d.low d.high))
        (record { units = large_read d.q d.j d.low d.high; less = omega (arith, d.high) })

pub read_size : (x : Float) → F32 x → Read (mag x) (pattern (mag x))
unfolding Top
read_size x f = let s = shape x f in read (mag x) s.grid s.less

-- ---- the order
pattern_mono : (n m : ℕ) → n ≤ m → pattern n ≤ pattern m
pattern_mono n m h = elim (eq-or-lt_of_le (fewer (size n) (size m) (size_mono n m h))) [
  | inl e ↦ let d : n / 2 ^ (size m - 24) ≤ m / 2 ^ (size m - 24) = shr_mono (size m - 24) h in subst (λ (k : ℕ). k * 8388608 + n / 2 ^ k ≤ pattern m) (sym e) (omega arith)
  | inr l ↦
      let k = size m - 24 in
      let few : n / 2 ^ (size n - 24) < 16777216 = kept-lt 24 n in
      let many : 8388608 ≤ m / 2 ^ k = (le-div_iff_mul-le (pow_pos k)).1 (le_trans (le_of_eq (sym (pow-add 2 23 k))) (size_reaches m (23 + k) (omega arith))) in
      omega arith
]
  where
    fewer : (x y : ℕ) → x ≤ y → x - 24 ≤ y - 24
    fewer x y h = omega arith

pattern_order : (x y : Float) → F32 x → F32 y → pattern (mag x) ≤ pattern (mag y) → mag x ≤ mag y
pattern_order x y f g h = elim (le_or_lt (mag x) (mag y)) [
  | inl l ↦ l
  | inr l ↦
      let e : pattern (mag x) ≡ pattern (mag y) = le_antisymm h (pattern_mono (mag y) (mag x) (le_of_lt l)) in
      le_of_eq ((read_size x f).units ∙ ap units_of e ∙ sym (read_size y g).units)
]

pub no_sign : (x : Float) → F32 x → to_bits binary32 x % 2147483648 ≡ pattern (mag x)
no_sign x f = go (sign x) (to_bits_is x f.fine)
  where
    go : (s : Bool) → to_bits binary32 x ≡ cond s 2147483648 0 + pattern (mag x) → to_bits binary32 x % 2147483648 ≡ pattern (mag x)
    go true e = omega (arith, (read_size x f).less)
    go false e = omega (arith, (read_size x f).less)

infinity_bits : (s : Bool) → to_bits binary32 (inf s) % 2147483648 ≡ 2139095040
unfolding to_bits
infinity_bits true = refl
infinity_bits false = refl

-- Without the sign, the bits of what is no NaN are at most those of b exactly where it is finite and of size at most b's.
pub bits_bounded : (b x : Float) → F32 b → T (fits binary32 x) → T (not (is_nan x)) → (to_bits binary32 x % 2147483648 ≤ to_bits binary32 b % 2147483648) ↔ Bounded (mag b) x
bits_bounded b nan f t n = absurd (unfold is_nan in n)
bits_bounded b (inf s) f t n = (λ h. absurd (beyond (infinity_bits s) (no_sign b f) (read_size b f).less h), λ k. absurd k.f32.fine)
  where
    beyond : {x y k : ℕ} → x ≡ 2139095040 → y ≡ k → k < 2139095040 → x ≤ y → ⊥
    beyond e d l h = omega arith
bits_bounded b (fin s m e) f t n =
    let x = fin s m e in
    let g : F32 x = record { fine = tt; fit = t } in
    let i = no_sign x g in
    let j = no_sign b f in
    (λ h. record { f32 = g; most = pattern_order x b g f (omega arith) }, λ k. let l = pattern_mono (mag x) (mag b) k.most in omega arith)
