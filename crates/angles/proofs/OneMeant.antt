-- There is one f32 meant at most. Each sum lies between the two before it, so once two neighbours round to r all later sums do. Assumes nothing.
use mathlib.Core.Path.{◌≡◌, refl, sym, ap, ◌∙◌, subst}
use mathlib.Core.Logic.{inl, inr}
use mathlib.Core.Bool.{false}
use Prim.Native.Nat.{ℕ, zero, suc, ◌-◌, ◌*◌, ◌≤◌, ◌<◌}
use native.Mathlib.Nat.{le_trans, le_of_eq, le_antisymm, eq-or-lt_of_le, eq-zero-or-pos, lt_of_le_of_lt, mul_comm, mul_right_comm, mul-le-mul_right}
use native.Mathlib.Omega.{arith}
use lib.Ieee.{Float, binary32, round}
use lib.Ieee.Positive.{num, den, den_pos}
use Rattle.ieee.specs.Units.{One, mag}
use Rattle.ieee.proofs.Grid.{rnd, rnd_mono, rnd_le}
use Rattle.ieee.proofs.Value.{Is, rounded, one_grid}
use Rattle.ieee.proofs.Constants.{one_less}
use Rattle.ieee.proofs.Unique.{unique}
use Rattle.angles.specs.Angle.{numerator_at, down, partial, Meant}
use Rattle.angles.proofs.Partial.{Fraction, fraction, nested}

-- ---- what lies between two fractions that round to r rounds to r
pub size_of : (p q : ℕ) → Fraction p q → Is (round binary32 false p q) false (rnd (p * One) q)
size_of p q f =
    rounded false p q (p * One) q f.some f.some refl
    (lt_of_le_of_lt (rnd_le one_grid (p * One) q f.some (le_trans (mul-le-mul_right One f.most) (le_of_eq (mul_comm q One)))) one_less)

order : (p q p' q' : ℕ) → Fraction p q → Fraction p' q' → p * q' ≤ p' * q → rnd (p * One) q ≤ rnd (p' * One) q'
order p q p' q' f f' h =
    rnd_mono (p * One) q (p' * One) q' f.some f'.some (le_trans (le_of_eq (mul_right_comm p One q')) (le_trans (mul-le-mul_right One h) (le_of_eq (mul_right_comm p' q One))))

squeeze : (p q p' q' p'' q'' : ℕ) {r : Float} → Fraction p q → Fraction p' q' → Fraction p'' q'' → p * q' ≤ p' * q → p' * q'' ≤ p'' * q'
    → round binary32 false p q ≡ r → round binary32 false p'' q'' ≡ r → round binary32 false p' q' ≡ r
squeeze p q p' q' p'' q'' {r} f f' f'' a b e e'' =
    let i = size_of p q f in
    let i' = size_of p' q' f' in
    let i'' = size_of p'' q'' f'' in
    let same : rnd (p * One) q ≡ rnd (p'' * One) q'' = sym i.size ∙ ap mag (e ∙ sym e'') ∙ i''.size in
    let mid : rnd (p' * One) q' ≡ rnd (p * One) q = le_antisymm (le_trans (order p' q' p'' q'' f' f'' b) (le_of_eq (sym same))) (order p q p' q' f f' a) in
    unique (round binary32 false p' q') (round binary32 false p q) i'.f32 i.f32 (i'.signed ∙ sym i.signed) (i'.size ∙ mid ∙ sym i.size) ∙ e

-- ---- once two neighbours round to r, the next does
module _ (s a c : ℕ) (small : a ≤ c) (some : 0 < c) where
  abbrev R : ℕ → Float
  R k = round binary32 false (numerator_at s a c k) (down s c k)

  step : (k : ℕ) {r : Float} → R k ≡ r → R (suc k) ≡ r → R (suc (suc k)) ≡ r
  step k e e' =
      let f : (k : ℕ) → Fraction (numerator_at s a c k) (down s c k) = fraction s a c small some in
      let k₁ = suc k in
      let k₂ = suc k₁ in
      elim (nested s a c small some k) [
        | inl b ↦ squeeze (numerator_at s a c k₁) (down s c k₁) (numerator_at s a c k₂) (down s c k₂) (numerator_at s a c k) (down s c k) (f k₁) (f k₂) (f k) b.0 b.1 e' e
        | inr b ↦ squeeze (numerator_at s a c k) (down s c k) (numerator_at s a c k₂) (down s c k₂) (numerator_at s a c k₁) (down s c k₁) (f k) (f k₂) (f k₁) b.0 b.1 e e'
      ]

  later : (j k : ℕ) {r : Float} → k ≤ j → R k ≡ r → R (suc k) ≡ r → (R j ≡ r) × (R (suc j) ≡ r)
  later zero k {r} h e e' = let z : k ≡ 0 = omega arith in (subst (λ (i : ℕ). R i ≡ r) z e, subst (λ (i : ℕ). R (suc i) ≡ r) z e')
  later (suc j) k {r} h e e' = elim (eq-or-lt_of_le h) [
    | inl z ↦ (subst (λ (i : ℕ). R i ≡ r) z e, subst (λ (i : ℕ). R (suc i) ≡ r) z e')
    | inr l ↦ let p = later j k (omega arith) e e' in (p.1, step j p.0 p.1)
  ]

  only : (j k : ℕ) {r r' : Float} → R k ≡ r → R (suc k) ≡ r → R j ≡ r' → R (suc j) ≡ r' → r ≡ r'
  only j k a b d e = elim (eq-zero-or-pos (k - j)) [
    | inl z ↦ sym (later j k (omega arith) a b).0 ∙ d
    | inr p ↦ sym a ∙ (later k j (omega arith) d e).0
  ]

-- the f32 meant at an x of at most 1 is one
pub meant_unique : (s : ℕ) (x r r' : Float) → num x ≤ den x → Meant s x r → Meant s x r' → r ≡ r'
unfolding partial
meant_unique s x r r' h m n = only s (num x) (den x) h (den_pos x) n.k m.k m.here m.next n.here n.next
