-- Tests of a float by its bits: from 0 on floats are in the order of their bits, but for -0.0, which compares as 0; and a float that is not 0 equals that of one pattern only.
-- Assumes nothing.
use mathlib.Core.Path.{◌≡◌, refl, sym, ap, ◌∙◌, subst}
use mathlib.Core.Logic.{◌⊎◌, inl, inr}
use mathlib.Core.Bool.{Bool, true, false, not, ◌&&◌, ◌||◌, cond}
use Prim.Native.Nat.{ℕ, ◌+◌, ◌%◌, ◌^◌, ◌≤◌, ◌<◌}
use native.Mathlib.Omega.{arith}
use borrow.Author.Tests.{le-ltb}
use lib.Dec.{T, eqb, leb, leb→le, le→leb, eqb→eq}
use lib.IntN.{pos}
use lib.Ieee.{Float, nan, inf, fin, binary32, size, fits, is_nan, to_bits, of_bits, lt, le, eq}
use lib.Ieee.Bits.{of_bits-to_bits, to_bits-of_bits, of_bits-fits, nan_bits_is, nan_bits_above}
use lib.Ieee.Fits.{and_i, and_l, and_r, eq→eqb}
use lib.Ieee.Scale.{finite}
use Rattle.ieee.specs.Units.{F32, sign, mag, P, N}
use Rattle.ieee.specs.Numbers.{0·0}
use Rattle.ieee.proofs.Bits.{pattern, to_bits_is, read_size, bits_bounded}
use Rattle.ieee.proofs.Constants.{zero_f32, zero_mag}
use Rattle.ieee.proofs.Signed.{mag_is, one_sided}
use Rattle.ieee.proofs.Unique.{same_value}
use Rattle.ieee.proofs.Compare.{→le, le→, →eq, eq→}

same_test : (a b : Bool) → (T a → T b) → (T b → T a) → a ≡ b
same_test true true f g = refl
same_test true false f g = absurd (f tt)
same_test false true f g = absurd (g tt)
same_test false false f g = refl

finite_number : (x : Float) → T (finite x) → T (not (is_nan x))
unfolding is_nan
finite_number nan f = absurd f
finite_number (inf s) f = absurd f
finite_number (fin s m e) f = tt

-- ---- a pattern below an infinity's
module _ (b : ℕ) (below : b < 2139095040) where
  number : T (not (is_nan (of_bits binary32 b)))
  number =
      let q : b % 2147483648 ≤ 2139095040 = omega arith in
      subst (λ (t : Bool). T (not t)) (sym (nan_bits_above binary32 b ∙ le-ltb 2139095040 (b % 2147483648) q) ∙ nan_bits_is binary32 b) tt

  pub pattern_kept : to_bits binary32 (of_bits binary32 b) ≡ b
  pattern_kept = to_bits-of_bits binary32 b (omega arith) number

  no_infinity : (x : Float) → T (not (is_nan x)) → to_bits binary32 x ≡ b → T (finite x)
  unfolding is_nan to_bits
  no_infinity nan n e = absurd n
  no_infinity (inf true) n e = absurd (omega arith)
  no_infinity (inf false) n e = absurd (omega arith)
  no_infinity (fin s m d) n e = tt

  pub pattern_f32 : F32 (of_bits binary32 b)
  pattern_f32 = record { fine = no_infinity (of_bits binary32 b) number pattern_kept; fit = of_bits-fits binary32 b }

  pub pattern_plus : sign (of_bits binary32 b) ≡ false
  pattern_plus = go (sign (of_bits binary32 b)) refl (to_bits_is (of_bits binary32 b) pattern_f32.fine)
    where
      go : (s : Bool) → sign (of_bits binary32 b) ≡ s → to_bits binary32 (of_bits binary32 b) ≡ cond (sign (of_bits binary32 b)) 2147483648 0 + pattern (mag (of_bits binary32 b))
          → sign (of_bits binary32 b) ≡ false
      go false q e = q
      go true q e = absurd (let d : to_bits binary32 (of_bits binary32 b) ≡ 2147483648 + pattern (mag (of_bits binary32 b)) = rw q at e in omega (arith, pattern_kept))

-- no sign: the value is the size
unsigned_P : (x : Float) → sign x ≡ false → P x ≡ mag x
unsigned_P x e = rw e

unsigned_N : (x : Float) → sign x ≡ false → N x ≡ 0
unsigned_N x e = rw e

signed_P : (x : Float) → sign x ≡ true → P x ≡ 0
signed_P x e = rw e

or_elim : {X : Type 0} (a b : Bool) → T (a || b) → (T a → X) → (T b → X) → X
or_elim true b t f g = f t
or_elim false b t f g = g t

or_l : (a b : Bool) → T a → T (a || b)
or_l true b t = tt
or_l false b t = absurd t

or_r : (a b : Bool) → T b → T (a || b)
or_r true b t = tt
or_r false b t = t

-- ---- from 0 to the float of the pattern b
abbrev up_to : Float → Float → Bool
up_to y x = le 0·0 x && le x y

up_to_finite : (y x : Float) → F32 y → T (fits binary32 x) → T (up_to y x) → F32 x
up_to_finite nan x f t h = absurd f.fine
up_to_finite (inf s) x f t h = absurd f.fine
up_to_finite (fin s m e) nan f t h = absurd (unfold le lt eq in h)
up_to_finite (fin s m e) (inf true) f t h = absurd (unfold le lt eq in h)
up_to_finite (fin s m e) (inf false) f t h = absurd (unfold le lt eq in h)
up_to_finite (fin s m e) (fin u k d) f t h = record { fine = tt; fit = t }

-- of a float with no sign it is a bound on the size
sized : (y x : Float) → F32 y → F32 x → sign y ≡ false → sign x ≡ false → mag x ≤ mag y → T (up_to y x)
sized y x f g s t h =
    and_i (le 0·0 x) (le x y)
    (→le 0·0 x zero_f32 g (omega (arith, unsigned_P x t, unsigned_N x t, zero_mag)))
    (→le x y g f (omega (arith, unsigned_P x t, unsigned_N x t, unsigned_P y s, unsigned_N y s)))

-- -0.0
minus_zero : (y : Float) → F32 y → sign y ≡ false → T (up_to y (of_bits binary32 2147483648))
unfolding of_bits
minus_zero y f s =
    let z : Float = fin true 0 (pos 0) in
    let g : F32 z = record { fine = tt; fit = unfold fits in tt } in
    and_i (le 0·0 z) (le z y) (unfold le lt eq in tt) (→le z y g f (omega (arith, unsigned_P y s, unsigned_N y s)))

pattern_zero : pattern 0 ≡ 0
unfolding size
pattern_zero = refl

-- and then it says that the bits are in order
module _ (y x : Float) (g : F32 y) (f : F32 x) (plus : sign y ≡ false) (b w : ℕ) (below : b < 2139095040) (is : to_bits binary32 y ≡ b) (kept : to_bits binary32 x ≡ w) where
  bits_of : T (up_to y x) → T (leb w b || eqb w 2147483648)
  bits_of h = go (sign x) refl (to_bits_is x f.fine) (le→ x y f g (and_r (le 0·0 x) (le x y) h)) (le→ 0·0 x zero_f32 f (and_l (le 0·0 x) (le x y) h))
    where
      go : (s : Bool) → sign x ≡ s → to_bits binary32 x ≡ cond (sign x) 2147483648 0 + pattern (mag x) → P x + N y ≤ P y + N x → P 0·0 + N x ≤ P x + N 0·0
          → T (leb w b || eqb w 2147483648)
      go false q e high deep =
          let d : to_bits binary32 x ≡ 0 + pattern (mag x) = rw q at e in
          let m : mag x ≤ mag y = omega (arith, high, unsigned_P x q, unsigned_N x q, unsigned_P y plus, unsigned_N y plus) in
          let i = (bits_bounded y x g f.fit (finite_number x f.fine)).1 (record { f32 = f; most = m }) in
          or_l (leb w b) (eqb w 2147483648) (le→leb w b (omega (arith, i, kept, is, d, (read_size x f).less)))
      go true q e high deep =
          let d : to_bits binary32 x ≡ 2147483648 + pattern (mag x) = rw q at e in
          let z : mag x ≡ 0 = omega (arith, deep, mag_is x, signed_P x q, zero_mag) in
          let p : pattern (mag x) ≡ 0 = ap pattern z ∙ pattern_zero in
          or_r (leb w b) (eqb w 2147483648) (eq→eqb (let r : w ≡ 2147483648 = omega (arith, kept, d, p) in r))

module _ (b : ℕ) (below : b < 2139095040) (w : ℕ) (less : w < 2 ^ 32) where
  to : T (leb w b || eqb w 2147483648) → T (up_to (of_bits binary32 b) (of_bits binary32 w))
  to h = or_elim (leb w b) (eqb w 2147483648) h
      (λ t.
      let k : w < 2139095040 = omega (arith, leb→le w b t) in
      let f = pattern_f32 b below in
      let i = (bits_bounded (of_bits binary32 b) (of_bits binary32 w) f (of_bits-fits binary32 w) (number w k)).0 (omega (arith, leb→le w b t, pattern_kept b below, pattern_kept w k))
      in
      sized (of_bits binary32 b) (of_bits binary32 w) f (pattern_f32 w k) (pattern_plus b below) (pattern_plus w k) i.most)
      (λ t.
      subst (λ (n : ℕ). T (up_to (of_bits binary32 b) (of_bits binary32 n))) (sym (eqb→eq w 2147483648 t))
      (minus_zero (of_bits binary32 b) (pattern_f32 b below) (pattern_plus b below)))

  from : T (up_to (of_bits binary32 b) (of_bits binary32 w)) → T (leb w b || eqb w 2147483648)
  from h =
      let f = up_to_finite (of_bits binary32 b) (of_bits binary32 w) (pattern_f32 b below) (of_bits-fits binary32 w) h in
      bits_of (of_bits binary32 b) (of_bits binary32 w) (pattern_f32 b below) f (pattern_plus b below) b w below (pattern_kept b below)
      (to_bits-of_bits binary32 w less (finite_number (of_bits binary32 w) f.fine)) h

  pub bits_up_to : (leb w b || eqb w 2147483648) ≡ (le 0·0 (of_bits binary32 w) && le (of_bits binary32 w) (of_bits binary32 b))
  bits_up_to = same_test (leb w b || eqb w 2147483648) (up_to (of_bits binary32 b) (of_bits binary32 w)) to from

-- ---- the float y, which is not 0
same_float : (x y : Float) → T (fits binary32 x) → F32 y → 0 < mag y → T (eq x y) → x ≡ y
same_float nan y t g p h = absurd (unfold eq in h)
same_float (inf s) nan t g p h = absurd g.fine
same_float (inf s) (inf u) t g p h = absurd g.fine
same_float (inf s) (fin u k d) t g p h = absurd (unfold eq in h)
same_float (fin s m e) y t g p h =
    let x = fin s m e in
    let f : F32 x = record { fine = tt; fit = t } in
    let q = eq→ x y f g h in
    let r = go (P x) (N x) (P y) (N y) q (one_sided x) (one_sided y) (omega (arith, mag_is y)) in
    same_value y x g f r.0 r.1 p
  where
    go : (a b c d : ℕ) → a + d ≡ c + b → (a ≡ 0) ⊎ (b ≡ 0) → (c ≡ 0) ⊎ (d ≡ 0) → 0 < c + d → (a ≡ c) × (b ≡ d)
    go a b c d e (inl z) (inl u) p = (omega arith, omega arith)
    go a b c d e (inl z) (inr u) p = absurd (omega arith)
    go a b c d e (inr z) (inl u) p = absurd (omega arith)
    go a b c d e (inr z) (inr u) p = (omega arith, omega arith)

pub bits_same : (y : Float) → F32 y → 0 < mag y → (w : ℕ) → w < 2 ^ 32 → eqb w (to_bits binary32 y) ≡ eq (of_bits binary32 w) y
bits_same y g p w less =
    same_test (eqb w (to_bits binary32 y)) (eq (of_bits binary32 w) y)
    (λ t. subst (λ (x : Float). T (eq x y)) (sym (ap (of_bits binary32) (eqb→eq w (to_bits binary32 y) t) ∙ of_bits-to_bits binary32 y g.fit)) (→eq y y g g refl))
    (λ t.
    let e = same_float (of_bits binary32 w) y (of_bits-fits binary32 w) g p t in
    let n : T (not (is_nan (of_bits binary32 w))) = subst (λ (x : Float). T (not (is_nan x))) (sym e) (finite_number y g.fine) in
    eq→eqb (sym (to_bits-of_bits binary32 w less n) ∙ ap (to_bits binary32) e))
