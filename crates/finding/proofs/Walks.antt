-- A walk over the places i, i + 1, .., of which the first that there is is wanted. Assumes nothing.
use mathlib.Core.Path.{◌≡◌, refl, sym, ap, subst, ◌∙◌}
use mathlib.Core.Bool.{Bool, true, false, cond}
use Prim.Native.Nat.{ℕ, suc, ◌+◌, ◌-◌, ◌≤◌, ◌<◌}
use native.Mathlib.Omega.{arith}
use lib.Dec.{T, eqb, eqb→eq}
use lib.Ieee.Fits.{eq→eqb}
use Rattle.std.specs.Prelude.{Option, Some, None}
use Rattle.std.specs.Option.{option_or}
use Rattle.vectors.specs.declared.Vec3.{Vec3}
use Rattle.panning.specs.Setup.{Setup}
use Rattle.finding.specs.Search.{first_place, exactly, mask_at}

-- at i of n, the answer is that of the places from i on
abbrev pub FirstFrom : (ℕ → Option Vec3) → ℕ → ℕ → Type 0
FirstFrom f n i = first_place f (n - i) i ≡ first_place f n 0

module _ (f : ℕ → Option Vec3) (n i : ℕ) (h : i < n) where
  step : first_place f (n - i) i ≡ option_or (f i) (first_place f (n - suc i) (suc i))
  unfolding first_place
  step = ap (λ (k : ℕ). first_place f k i) (let e : n - i ≡ suc (n - suc i) = omega (arith, h) in e)

  pub there : FirstFrom f n i → {p : Vec3} → f i ≡ Some p → Some p ≡ first_place f n 0
  there w e = sym (step ∙ ap (λ (o : Option Vec3). option_or o (first_place f (n - suc i) (suc i))) e) ∙ w

  pub further : FirstFrom f n i → f i ≡ None → FirstFrom f n (i + 1)
  further w e =
      subst (FirstFrom f n) (let k : suc i ≡ i + 1 = omega arith in k)
      (sym (step ∙ ap (λ (o : Option Vec3). option_or o (first_place f (n - suc i) (suc i))) e) ∙ w)

pub nowhere : (f : ℕ → Option Vec3) (n i : ℕ) → n ≤ i → FirstFrom f n i → None ≡ first_place f n 0
unfolding first_place
nowhere f n i h w = sym (ap (λ (k : ℕ). first_place f k i) (let e : n - i ≡ 0 = omega (arith, h) in e)) ∙ w

-- ---- one place
module _ (h : Setup) (mask : ℕ) (p : Vec3) where
  pub exact : mask_at h p ≡ mask → exactly h mask p ≡ Some p
  exact e = ap (λ (b : Bool). cond b (Some p) None) (T_is (eqb (mask_at h p) mask) (eq→eqb e))
    where
      T_is : (b : Bool) → T b → b ≡ true
      T_is true t = refl
      T_is false t = absurd t

  pub other : (mask_at h p ≡ mask → ⊥) → exactly h mask p ≡ None
  other n = ap (λ (b : Bool). cond b (Some p) None) (not_is (eqb (mask_at h p) mask) (λ t. n (eqb→eq (mask_at h p) mask t)))
    where
      not_is : (b : Bool) → (T b → ⊥) → b ≡ false
      not_is true n = absurd (n tt)
      not_is false n = refl
