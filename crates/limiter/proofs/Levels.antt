-- Levels: of floats that are no NaN and have no sign, the maximum is that of their ranks, natural numbers. A NaN has rank 0, for a maximum passes over it. So a peak does not
-- depend on the order in which its samples are taken. Assumes nothing.
use mathlib.Core.Path.{◌≡◌, refl, sym, ap, ◌∙◌, subst}
use mathlib.Core.Bool.{Bool, true, false, not, cond, true≢false}
use Prim.Native.Nat.{ℕ, zero, suc, ◌≤◌, ◌<◌}
use native.Mathlib.Nat.{le_refl, le_trans, le_of_eq, le_of_lt, lt_irrefl}
use native.Mathlib.Omega.{arith}
use lib.Dec.{T}
use lib.IntN.{ℤ}
use lib.Ieee.{Float, nan, inf, fin, binary32, fits, is_nan, lt}
use Rattle.ieee.specs.Units.{Top, mag}
use Rattle.ieee.specs.Small.{absolute, larger}
use Rattle.ieee.proofs.Value.{shape}
use Rattle.ieee.proofs.Unique.{unique}
use Rattle.ieee.proofs.Compare.{lt→, nlt→}
pub use Rattle.limiter.specs.Level.{Level}

unfoldable pub rank : Float → ℕ
rank nan = 0
rank (inf s) = Top
rank (fin s m e) = mag (fin s m e)

-- an element of a slice
abbrev pub Fit : Float → Type 0
Fit x = T (fits binary32 x)

-- ---- a level is its rank
pub level_unique : (a b : Float) → Level a → Level b → rank a ≡ rank b → a ≡ b
unfolding rank
level_unique nan b p q e = absurd (unfold is_nan in true≢false p.number)
level_unique (inf s) nan p q e = absurd (unfold is_nan in true≢false q.number)
level_unique (inf s) (inf t) p q e = ap inf (p.plus ∙ sym q.plus)
level_unique (inf s) (fin t n d) p q e = absurd (lt_irrefl Top (subst (λ (z : ℕ). z < Top) (sym e) (shape (fin t n d) (record { fine = tt; fit = q.fit })).less))
level_unique (fin s m e) nan p q h = absurd (unfold is_nan in true≢false q.number)
level_unique (fin s m e) (inf t) p q h = absurd (lt_irrefl Top (subst (λ (z : ℕ). z < Top) h (shape (fin s m e) (record { fine = tt; fit = p.fit })).less))
level_unique (fin s m e) (fin t n d) p q h = unique (fin s m e) (fin t n d) (record { fine = tt; fit = p.fit }) (record { fine = tt; fit = q.fit }) (p.plus ∙ sym q.plus) h

-- ---- comparing levels is comparing ranks
lt_rank : (a b : Float) → Level a → Level b → T (lt a b) → rank a < rank b
unfolding rank
lt_rank nan b p q t = absurd (unfold lt in t)
lt_rank (inf s) nan p q t = absurd (unfold lt in t)
lt_rank (inf false) (inf t) p q h = absurd (unfold lt in h)
lt_rank (inf true) (inf t) p q h = absurd (true≢false p.plus)
lt_rank (inf false) (fin t n d) p q h = absurd (unfold lt in h)
lt_rank (inf true) (fin t n d) p q h = absurd (true≢false p.plus)
lt_rank (fin s m e) nan p q h = absurd (unfold lt in h)
lt_rank (fin s m e) (inf t) p q h = (shape (fin s m e) (record { fine = tt; fit = p.fit })).less
lt_rank (fin false m e) (fin false n d) p q h = omega (arith, lt→ (fin false m e) (fin false n d) (record { fine = tt; fit = p.fit }) (record { fine = tt; fit = q.fit }) h)
lt_rank (fin true m e) (fin t n d) p q h = absurd (true≢false p.plus)
lt_rank (fin false m e) (fin true n d) p q h = absurd (true≢false q.plus)

nlt_rank : (a b : Float) → Level a → Level b → T (not (lt a b)) → rank b ≤ rank a
unfolding rank
nlt_rank nan b p q t = absurd (unfold is_nan in true≢false p.number)
nlt_rank (inf s) nan p q t = absurd (unfold is_nan in true≢false q.number)
nlt_rank (inf s) (inf t) p q h = le_refl Top
nlt_rank (inf s) (fin t n d) p q h = le_of_lt (shape (fin t n d) (record { fine = tt; fit = q.fit })).less
nlt_rank (fin s m e) nan p q h = absurd (unfold is_nan in true≢false q.number)
nlt_rank (fin s m e) (inf true) p q h = absurd (true≢false q.plus)
nlt_rank (fin s m e) (inf false) p q h = absurd (unfold lt in h)
nlt_rank (fin false m e) (fin false n d) p q h = omega (arith, nlt→ (fin false m e) (fin false n d) (record { fine = tt; fit = p.fit }) (record { fine = tt; fit = q.fit }) h)
nlt_rank (fin true m e) (fin t n d) p q h = absurd (true≢false p.plus)
nlt_rank (fin false m e) (fin true n d) p q h = absurd (true≢false q.plus)

-- ---- the size of a number is a level, of the same rank
abs_level : (x : Float) → Fit x → is_nan x ≡ false → Level (absolute x)
unfolding fits is_nan absolute
abs_level nan f n = absurd (true≢false n)
abs_level (inf s) f n = record { fit = tt; number = refl; plus = refl }
abs_level (fin s m e) f n = record { fit = clear s m e f; number = refl; plus = refl }
  where
    clear : (s : Bool) (m : ℕ) (e : ℤ) → T (fits binary32 (fin s m e)) → T (fits binary32 (fin false m e))
    clear s zero e f = f
    clear s (suc m) e f = f

abs_rank : (x : Float) → rank (absolute x) ≡ rank x
unfolding rank absolute
abs_rank nan = refl
abs_rank (inf s) = refl
abs_rank (fin s m e) = unfold mag in refl

pub level_abs : (m : Float) → Level m → absolute m ≡ m
unfolding absolute
level_abs nan p = refl
level_abs (inf s) p = ap inf (sym p.plus)
level_abs (fin s m e) p = ap (λ (t : Bool). fin t m e) (sym p.plus)

-- ---- the maximum of a level and the size of a sample
-- r is a level whose rank is the maximum of m's and x's
pub record Raised (m x r : Float) : Type 0 where
  pub level : Level r
  pub first : rank m ≤ rank r
  pub second : rank x ≤ rank r
  pub least : (k : ℕ) → rank m ≤ k → rank x ≤ k → rank r ≤ k

pub raised : (m x : Float) → Level m → Fit x → Raised m x (larger m (absolute x))
unfolding larger
raised m x p f = subst (λ (b : Bool). Raised m x (cond b (absolute x) (cond (lt m (absolute x)) (absolute x) m))) (sym p.number) (by_nan (is_nan x) refl)
  where
    above : is_nan x ≡ false → T (lt m (absolute x)) → Raised m x (absolute x)
    above n t =
        let l = lt_rank m (absolute x) p (abs_level x f n) t in
        record { level = abs_level x f n; first = le_of_lt l; second = le_of_eq (sym (abs_rank x)); least = λ k h i. le_trans (le_of_eq (abs_rank x)) i }

    under : rank x ≤ rank m → Raised m x m
    under h = record { level = p; first = le_refl (rank m); second = h; least = λ k i j. i }

    by_test : is_nan x ≡ false → (b : Bool) → (T b → T (lt m (absolute x))) → (T (not b) → T (not (lt m (absolute x)))) → Raised m x (cond b (absolute x) m)
    by_test n true t e = above n (t tt)
    by_test n false t e = under (le_trans (le_of_eq (sym (abs_rank x))) (nlt_rank m (absolute x) p (abs_level x f n) (e tt)))

    passed : (y : Float) → is_nan y ≡ true → (lt m (absolute y) ≡ false) × (rank y ≡ 0)
    passed nan e = (unfold absolute in nan_above m, unfold rank in refl)
      where
        nan_above : (m : Float) → lt m nan ≡ false
        nan_above nan = unfold lt in refl
        nan_above (inf s) = unfold lt in refl
        nan_above (fin s n d) = unfold lt in refl
    passed (inf s) e = absurd (unfold is_nan in true≢false (sym e))
    passed (fin s n d) e = absurd (unfold is_nan in true≢false (sym e))

    by_nan : (b : Bool) → is_nan x ≡ b → Raised m x (cond (lt m (absolute x)) (absolute x) m)
    by_nan true e = subst (λ (b : Bool). Raised m x (cond b (absolute x) m)) (sym (passed x e).0) (under (le_trans (le_of_eq (passed x e).1) (omega arith)))
    by_nan false e = by_test e (lt m (absolute x)) (λ t. t) (λ t. t)

pub raised_by : (m x r : Float) → Level m → Fit x → r ≡ larger m (absolute x) → Raised m x r
raised_by m x r p f e = subst (Raised m x) (sym e) (raised m x p f)

-- the test that finds it
pub raise_taken : (m x a : Float) → Level m → a ≡ absolute x → lt m a ≡ true → a ≡ larger m (absolute x)
unfolding larger
raise_taken m x a p e t = e ∙ sym (ap (λ (b : Bool). cond b (absolute x) (cond (lt m (absolute x)) (absolute x) m)) p.number
    ∙ ap (λ (b : Bool). cond b (absolute x) m) (ap (lt m) (sym e) ∙ t))

pub raise_left : (m x a : Float) → Level m → a ≡ absolute x → lt m a ≡ false → m ≡ larger m (absolute x)
unfolding larger
raise_left m x a p e t = sym (ap (λ (b : Bool). cond b (absolute x) (cond (lt m (absolute x)) (absolute x) m)) p.number
    ∙ ap (λ (b : Bool). cond b (absolute x) m) (ap (lt m) (sym e) ∙ t))
