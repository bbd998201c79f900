-- The laws of the small functions on f32: `abs` by 0.0 - x, `is_infinite` by the library's. Assumes nothing.
use mathlib.Core.Path.{◌≡◌, refl, sym, ap, ◌∙◌, subst}
use Prim.Native.Nat.{ℕ, zero, suc, ◌*◌}
use native.Mathlib.Omega.{arith}
use mathlib.Core.Bool.{Bool, true, false, not, ◌&&◌, ◌||◌, beq, true≢false}
use lib.IntN.{ℤ, pos}
use lib.Dec.{T, eqb, eqb_refl}
use lib.Ieee.{Float, nan, inf, fin, binary32, up, down, fits, neg, add, sub, level, lt, eq, ne, is_nan}
use lib.Ieee.Bits.{is_true, is_false}
use lib.Ieee.Compare.{nan_differs}
use Rattle.std.specs.Float.{float_is_infinite}
use Rattle.ieee.specs.Small.{absolute, infinite}
use Rattle.ieee.proofs.Value.{F32}
use Rattle.ieee.proofs.Constants.{0·0}
use Rattle.ieee.proofs.Exact.{fine, zero_form, zero_minus, zero_minus_zero, zero_not_above, mag_pos, less_itself, inf_less_itself}
use Rattle.ieee.proofs.Ops.{neg_f32, neg_P, neg_N}
use Rattle.ieee.proofs.Signed.{mag_is}
use Rattle.ieee.proofs.Compare.{→lt}

-- ---- `abs`: y = 0.0 - x. Where x is above y, x is its own absolute value
pub abs_kept : (x : Float) → fits binary32 x ≡ true → lt (sub binary32 0·0 x) x ≡ true → x ≡ absolute x
unfolding absolute
abs_kept nan g h = refl
abs_kept (inf false) g h = refl
abs_kept (inf true) g h = absurd (turned h)
  where
    turned : lt (sub binary32 0·0 (inf true)) (inf true) ≡ true → ⊥
    turned e = unfold lt sub add neg in true≢false (sym e)
abs_kept (fin false m e) g h = refl
abs_kept (fin true zero e) g h = absurd (true≢false (sym h ∙ ap (λ (d : ℤ). lt (sub binary32 0·0 (fin true 0 d)) (fin true 0 d)) (zero_form true e g)
    ∙ ap (λ (y : Float). lt y (fin true 0 (pos 0))) (zero_minus_zero true) ∙ zero_not_above true))
abs_kept (fin true (suc m) e) g h = absurd (below (subst (λ (y : Float). lt y (fin true (suc m) e) ≡ true) (zero_minus (fin true (suc m) e) f (mag_pos true m e f)) h))
  where
    f : F32 (fin true (suc m) e)
    f = fine (fin true (suc m) e) g tt

    below : lt (neg (fin true (suc m) e)) (fin true (suc m) e) ≡ true → ⊥
    below e = unfold lt neg in true≢false (sym e)

-- and where it is not, y is
pub abs_turned : (x : Float) → fits binary32 x ≡ true → lt (sub binary32 0·0 x) x ≡ false → sub binary32 0·0 x ≡ absolute x
abs_turned nan g h = turned
  where
    turned : sub binary32 0·0 nan ≡ absolute nan
    turned = unfold sub add neg absolute in refl
abs_turned (inf false) g h = absurd (kept h)
  where
    kept : lt (sub binary32 0·0 (inf false)) (inf false) ≡ false → ⊥
    kept e = unfold lt sub add neg in true≢false e
abs_turned (inf true) g h = turned
  where
    turned : sub binary32 0·0 (inf true) ≡ absolute (inf true)
    turned = unfold sub add neg absolute in refl
abs_turned (fin s zero e) g h = ap (λ (d : ℤ). sub binary32 0·0 (fin s 0 d)) z ∙ zero_minus_zero s ∙ clear ∙ ap (λ (d : ℤ). absolute (fin s 0 d)) (sym z)
  where
    z : e ≡ pos 0
    z = zero_form s e g

    clear : 0·0 ≡ absolute (fin s 0 (pos 0))
    clear = unfold absolute in refl
abs_turned (fin true (suc m) e) g h = zero_minus (fin true (suc m) e) f (mag_pos true m e f) ∙ clear
  where
    f : F32 (fin true (suc m) e)
    f = fine (fin true (suc m) e) g tt

    clear : neg (fin true (suc m) e) ≡ absolute (fin true (suc m) e)
    clear = unfold absolute neg in refl
abs_turned (fin false (suc m) e) g h = absurd (true≢false (sym (is_true (lt (neg x) x) above) ∙ subst (λ (y : Float). lt y x ≡ false) (zero_minus x f (mag_pos false m e f)) h))
  where
    x : Float
    x = fin false (suc m) e

    f : F32 x
    f = fine x g tt

    above : T (lt (neg x) x)
    above = →lt (neg x) x (neg_f32 x f) f (omega (arith, neg_P x f, neg_N x f, mag_is x, mag_pos false m e f))

-- ---- a float differs from itself where it is a NaN
pub self_nan : (x : Float) → ne x x ≡ is_nan x
unfolding is_nan
self_nan nan = nan_differs
self_nan (inf s) = unfold ne eq in go s
  where
    go : (s : Bool) → not (beq s s) ≡ false
    go false = refl
    go true = refl
self_nan (fin s m e) = unfold ne eq in level_self s (m * up e * down e)
  where
    level_self : (s : Bool) (a : ℕ) → not (level s a s a) ≡ false
    level_self s a = is_false (not (level s a s a)) (subst (λ (b : Bool). T (not (not (b && (beq s s || eqb a 0))))) (sym (is_true (eqb a a) (eqb_refl a))) (both s a))
      where
        both : (s : Bool) (a : ℕ) → T (not (not (beq s s || eqb a 0)))
        both false a = tt
        both true a = tt

-- ---- x - x is 0 where x is finite, and a NaN otherwise
pub infinite_by_difference : (x : Float) → fits binary32 x ≡ true → ne x x ≡ false → ne (sub binary32 x x) (sub binary32 x x) ≡ infinite x
infinite_by_difference nan g h = absurd (true≢false (sym nan_differs ∙ h))
infinite_by_difference (inf s) g h = ap (λ (y : Float). ne y y) (inf_less_itself s) ∙ nan_differs
infinite_by_difference (fin s m e) g h = self_nan (sub binary32 x x) ∙ no_nan (sub binary32 x x) (less_itself x (fine x g tt))
  where
    x : Float
    x = fin s m e

    no_nan : (z : Float) → T (eq z 0·0) → is_nan z ≡ false
    no_nan nan t = absurd (unfold eq in t)
    no_nan (inf s) t = unfold is_nan in refl
    no_nan (fin s m e) t = unfold is_nan in refl

-- ---- the library's test
pub infinite_is : (x : Float) → float_is_infinite x ≡ infinite x
unfolding float_is_infinite
infinite_is nan = refl
infinite_is (inf s) = refl
infinite_is (fin s m e) = refl
