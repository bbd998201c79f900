-- At every rate that is accepted a new filter is calm for every bound on the samples, and stays so: so its outputs are at most twice the largest sample. Assumes nothing.
use mathlib.Core.Path.{◌≡◌, refl, sym, ap, subst}
use mathlib.Core.List.{List, [], ◌∷◌, ◌++◌}
use Prim.Native.Nat.{ℕ, ◌+◌, ◌*◌, ◌^◌, ◌≤◌, zero-le}
use native.Mathlib.Nat.{le_trans, le_refl, le-max_left, le-max_right, max-le}
use native.Mathlib.Omega.{arith}
use lib.Ieee.{Float}
use Rattle.ieee.specs.Units.{One, F32, mag}
use Rattle.ieee.proofs.Digits.{Minus}
use Rattle.ieee.proofs.Near.{plus_ratio, minus_ratio}
use Rattle.angles.specs.Angle.{Listed}
use Rattle.angles.specs.Filter.{coefficients_of, LowpassAt}
use Rattle.angles.specs.FiveTerms.{coefficients_at}
use Rattle.angles.specs.declared.filter.Coefficients.{Coefficients}
use Rattle.angles.proofs.Theorems.{lowpass_only}
use Rattle.angles.proofs.Made.{one_24, Made}
use Rattle.angles.proofs.Sizes.{Sized, sized, whole, coefficients_made}
use Rattle.lowpass.specs.Lowpass.{BiquadLowpassState, unfed, new, next, after_all}
use Rattle.lowpass.specs.Bound.{Bounded, All, Range, largest, Twice}
use Rattle.lowpass.proofs.Passing.{Passing}
use Rattle.lowpass.proofs.Box as box
use Rattle.lowpass.proofs.Calm.{Calming, Calm, in_range, last_bounded, calming_all, calming_start}

-- ---- the coefficients lie in the box
one_48 : One ≡ 281474976710656 * 2 ^ 101
unfolding One
one_48 = refl

passing : {cos sin : Float} {r C v a : ℕ} → Listed r → C + v ≡ 16777216 → Sized r v a → Made cos sin C v a
    → let c = coefficients_of cos sin in Passing r c.a1 c.a2 c.b0 c.b1 c.b2
unfolding coefficients_of
passing l w s m = record {
  α = m.α;
  A = 2 * m.A;
  k = box.k l w s m;
  β₀ = m.β₂;
  β₁ = m.β₁;
  β₂ = m.β₂;
  a1_is = minus_ratio (2 * m.A) (2 ^ 125) 16777216 one_24 (subst (Minus _) (even m.A (2 ^ 125)) m.a1_is);
  a2_is = plus_ratio m.α (2 ^ 125) 16777216 one_24 m.a2_is;
  b0_is = plus_ratio m.β₂ (2 ^ 101) 281474976710656 one_48 m.b2_is;
  b1_is = plus_ratio m.β₁ (2 ^ 101) 281474976710656 one_48 m.b1_is;
  b2_is = plus_ratio m.β₂ (2 ^ 101) 281474976710656 one_48 m.b2_is;
  box = box.box l w s m;
  rate_high = l.high;
  gain = box.gain l w s m;
}
  where
    even : (a u : ℕ) → a * (2 * u) ≡ 2 * a * u
    even a u = omega arith

pub listed_passes : {rate : ℕ} → Listed rate → let c = coefficients_at rate in Passing rate c.a1 c.a2 c.b0 c.b1 c.b2
listed_passes l = passing l (whole l) (sized l) (coefficients_made l)

-- ---- a new filter
-- its coefficients are those that document 01 means
pub new_meant : {rate : ℕ} → Listed rate → {c : Coefficients} → LowpassAt rate c → new rate ≡ unfed c
unfolding new
new_meant l m = ap unfed (sym (lowpass_only l m))

pub calming_listed : {rate : ℕ} → Listed rate → (X : ℕ) → Calming rate X X (new rate)
unfolding new
calming_listed {rate} l X = calming_start rate X (coefficients_at rate) (listed_passes l)

pub calm_listed : {rate : ℕ} → Listed rate → (X : ℕ) → Calm X (new rate)
calm_listed {rate} l X = record { rate = rate; held = calming_listed l X }

-- ---- fed xs: calm for every X that is in range and not below the largest of them
pub within : {X : ℕ} (xs : List Float) → All F32 xs → largest xs ≤ X → All (Bounded X) xs
within [] h l = tt
within (x ∷ xs) h l = (record { f32 = h.0; most = le_trans (le-max_left (mag x) (largest xs)) l }, within xs h.1 (le_trans (le-max_right (mag x) (largest xs)) l))

-- and back
pub within_back : {X : ℕ} (xs : List Float) → All (Bounded X) xs → All F32 xs × (largest xs ≤ X)
within_back [] h = (tt, zero-le)
within_back (x ∷ xs) h = let t = within_back xs h.1 in ((h.0.f32, t.0), max-le h.0.most t.1)

pub calm_fed : {rate X : ℕ} → Listed rate → Range X → (xs : List Float) → All F32 xs → largest xs ≤ X → Calming rate X X (after_all (new rate) xs)
calm_fed {rate} {X} l r xs h k = calming_all (in_range r) (calming_listed l X) xs (within xs h k)

-- one list, then another; one sample more
pub fed_then : (f : BiquadLowpassState) (xs ys : List Float) → after_all f (xs ++ ys) ≡ after_all (after_all f xs) ys
fed_then f [] ys = refl
fed_then f (x ∷ xs) ys = fed_then (next f x) xs ys

pub fed_more : (f : BiquadLowpassState) (xs : List Float) (x : Float) → after_all f (xs ++ (x ∷ [])) ≡ next (after_all f xs) x
fed_more f xs x = fed_then f xs (x ∷ [])

-- document 02, R-7
pub lowpass_twice : {rate : ℕ} → Listed rate → Twice rate
lowpass_twice l xs h r = last_bounded (calm_fed l r xs h (le_refl (largest xs)))
