-- The gain's growth, on values: it stays in [0, 1], does not fall, and k blocks that do not lower it bring it to 1, or up by k times the decay less k roundings. The decay is
-- length / rate within one part in 2 ^ 24. Assumes nothing.
use mathlib.Core.Path.{◌≡◌, refl, sym, ap, ◌∙◌, subst}
use mathlib.Core.Logic.{◌⊎◌, inl, inr}
use Prim.Native.Nat.{ℕ, zero, suc, ◌+◌, ◌*◌, ◌^◌, ◌≤◌, ◌<◌}
use native.Mathlib.Nat.{le_trans, le_of_eq, lt_of_le_of_lt, le_antisymm, zero-lt-suc, zero-mul, mul-pos, mul_assoc, mul_comm, mul-le-mul_right, le_of_mul-le-mul_right}
use native.Mathlib.Omega.{arith}
use mathlib.Core.Bool.{Bool, true, false, not, cond}
use lib.Dec.{T, ltb, ltb→lt, nltb→le, lit<}
use lib.IntN.{pos}
use lib.Ieee.{Float, binary32, lt, add, of_int}
use Rattle.ieee.specs.Units.{One, Top, F32, P, N, Gain}
use Rattle.ieee.proofs.Grid.{DifferBy}
use Rattle.ieee.proofs.Value.{one_pos, one_is, one_grid, plus_P, plus_N}
use Rattle.ieee.proofs.Constants.{1·0, one_f32, one_P, one_less, whole_grid, whole_less, whole_is}
use Rattle.ieee.proofs.Unique.{same_value}
use Rattle.ieee.proofs.Ops.{Rounds, small, add_rounds, div_rounds}
use Rattle.ieee.proofs.Signed.{at_most, at_least, not_negative, near, near_ulp, P-grid}
use Rattle.ieee.proofs.Compare.{nlt→}
use Rattle.limiter.specs.Limiter.{decay, grown}
use Rattle.limiter.specs.BlockInRange.{Fraction, grown_times}

-- ---- the decay
pub record Decay (n rate : ℕ) : Type 0 where
  pub f32 : F32 (decay n rate)
  pub plus : N (decay n rate) ≡ 0
  pub most : P (decay n rate) ≤ One
  pub near : DifferBy (16777216 * (P (decay n rate) * rate)) (16777216 * (n * One)) (n * One + 8388608 * rate)

pub decay_is : (n rate : ℕ) → n ≤ rate → 0 < rate → rate < 16777216 → Decay n rate
decay_is n rate h r0 rl =
    let x = of_int binary32 (pos n) in
    let y = of_int binary32 (pos rate) in
    let d = decay n rate in
    let ix = whole_is n (lt_of_le_of_lt h rl) in
    let iy = whole_is rate rl in
    let yp : 0 < P y = subst (λ (k : ℕ). 0 < k) (sym (plus_P iy)) (mul-pos r0 one_pos) in
    let A : P x * One ≡ n * One * One = ap (λ (k : ℕ). k * One) (plus_P ix) in
    let B : N x * One ≡ 0 = ap (λ (k : ℕ). k * One) (plus_N ix) ∙ zero-mul One in
    let c : One * P y ≡ rate * One * One = ap (λ (k : ℕ). One * k) (plus_P iy) ∙ mul_comm One (rate * One) in
    let l : n * One * One ≤ rate * One * One = mul-le-mul_right One (mul-le-mul_right One h) in
    let r = div_rounds x y ix.f32 iy.f32 yp (small one_grid one_less (P x * One) (N x * One) (P y) yp (omega arith) (omega arith)) in
    let dn : N d ≡ 0 = not_negative yp r (omega arith) in
    let dp : P d * P y ≡ P d * rate * One = ap (λ (k : ℕ). P d * k) (plus_P iy) ∙ sym (mul_assoc (P d) rate One) in
    let dm : N d * P y ≡ 0 = ap (λ (k : ℕ). k * P y) dn ∙ zero-mul (P y) in
    let i = near yp r (n * One * One) (omega arith) (omega arith) in
    let q = plus_P iy in
    record {
      f32 = r.f32;
      plus = dn;
      most = at_most yp r one_grid (omega arith);
      near = record { above = le_of_mul-le-mul_right (omega (arith, i.above)) one_pos; below = le_of_mul-le-mul_right (omega (arith, i.below)) one_pos };
    }

-- half a unit in the last place of the values from 1/2 to 1
unfoldable pub HalfUlp : ℕ
HalfUlp = 2 ^ 124

-- ---- one block
two_less : 2 * One < Top
two_less = whole_less 2 (lib.Dec.lit≤ tt)

half_twice : 2 ^ 125 ≡ 2 * HalfUlp
unfolding HalfUlp
half_twice = refl

pub one_fraction : Fraction 1·0
one_fraction = record { f32 = one_f32; plus = refl; most = le_of_eq one_P }

-- before the cap
abbrev uncapped : ℕ → ℕ → Float → Float
uncapped n rate g = add binary32 g (decay n rate)

module _ (n rate : ℕ) (d : Decay n rate) (g : Float) (k : Fraction g) where
  sum_rounds : Rounds (uncapped n rate g) (P g + P (decay n rate)) (N g + N (decay n rate)) 1
  sum_rounds = add_rounds g (decay n rate) k.f32 d.f32
      (small (whole_grid 2 (lit< tt)) two_less (P g + P (decay n rate)) (N g + N (decay n rate)) 1 (zero-lt-suc 0) (omega (arith, k, d)) (omega (arith, k, d)))

  sum_plus : N (uncapped n rate g) ≡ 0
  sum_plus = not_negative (zero-lt-suc 0) sum_rounds (omega (arith, k, d))

  sum_above : P g ≤ P (uncapped n rate g)
  sum_above = at_least (zero-lt-suc 0) sum_rounds (P-grid k.f32) (omega (arith, k, d))

  -- where the test fails it is at most 1
  under_cap : T (not (lt 1·0 (uncapped n rate g))) → P (uncapped n rate g) ≤ One
  under_cap t =
      let q = nlt→ 1·0 (uncapped n rate g) one_f32 sum_rounds.f32 t in
      let o = one_P in
      let z = sum_plus in
      omega arith

  -- the exact sum below 1: half a unit in the last place is lost at most
  below_one : P g + P (decay n rate) < One → P g + P (decay n rate) ≤ P (uncapped n rate g) + HalfUlp
  below_one l =
      let i = near_ulp (zero-lt-suc 0) sum_rounds 125 (2 * HalfUlp) One half_twice one_is (omega (arith, k, d)) (omega (arith, k, d)) in
      let z = sum_plus in
      omega (arith, i.below, k, d)

  -- 1 or above: the rounded sum is so too
  at_one : One ≤ P g + P (decay n rate) → P (uncapped n rate g) ≤ One → uncapped n rate g ≡ 1·0
  at_one l m =
      same_value 1·0 (uncapped n rate g) one_f32 sum_rounds.f32 (le_antisymm m (at_least (zero-lt-suc 0) sum_rounds one_grid (omega (arith, k, d))) ∙ sym one_P)
      (sum_plus ∙ refl)
      (subst (λ (j : ℕ). 0 < j) (sym one_P) one_pos)

  pub grown_fraction : Fraction (grown n rate g)
  grown_fraction = unfold grown in go (lt 1·0 (uncapped n rate g)) under_cap
    where
      go : (b : Bool) → (T (not b) → P (uncapped n rate g) ≤ One) → Fraction (cond b 1·0 (uncapped n rate g))
      go true e = one_fraction
      go false e = record { f32 = sum_rounds.f32; plus = sum_plus; most = e tt }

  -- it does not fall
  grown_above : P g ≤ P (grown n rate g)
  grown_above = unfold grown in go (lt 1·0 (uncapped n rate g))
    where
      go : (b : Bool) → P g ≤ P (cond b 1·0 (uncapped n rate g))
      go true = le_trans k.most (le_of_eq (sym one_P))
      go false = sum_above

  grown_full : One ≤ P g + P (decay n rate) → grown n rate g ≡ 1·0
  grown_full l = unfold grown in go (lt 1·0 (uncapped n rate g)) under_cap
    where
      go : (b : Bool) → (T (not b) → P (uncapped n rate g) ≤ One) → cond b 1·0 (uncapped n rate g) ≡ 1·0
      go true e = refl
      go false e = at_one l (e tt)

  grown_more : P g + P (decay n rate) < One → (grown n rate g ≡ 1·0) ⊎ (P g + P (decay n rate) ≤ P (grown n rate g) + HalfUlp)
  grown_more l = unfold grown in go (lt 1·0 (uncapped n rate g))
    where
      go : (b : Bool) → (cond b 1·0 (uncapped n rate g) ≡ 1·0) ⊎ (P g + P (decay n rate) ≤ P (cond b 1·0 (uncapped n rate g)) + HalfUlp)
      go true = inl refl
      go false = inr (below_one l)

  grown_risen : (grown n rate g ≡ 1·0) ⊎ (P g + P (decay n rate) ≤ P (grown n rate g) + HalfUlp)
  grown_risen = go (ltb (P g + P (decay n rate)) One) (ltb→lt (P g + P (decay n rate)) One) (nltb→le (P g + P (decay n rate)) One)
    where
      go : (b : Bool) → (T b → P g + P (decay n rate) < One) → (T (not b) → One ≤ P g + P (decay n rate))
          → (grown n rate g ≡ 1·0) ⊎ (P g + P (decay n rate) ≤ P (grown n rate g) + HalfUlp)
      go true l e = grown_more (l tt)
      go false l e = inl (grown_full (e tt))

-- ---- many blocks

-- the gain after k blocks is 1, or has grown k times by the decay, each time less the rounding
pub record Grows (k : ℕ) (g : Float) (n rate : ℕ) : Type 0 where
  pub gain : Fraction (grown_times k n rate g)
  pub risen : (grown_times k n rate g ≡ 1·0) ⊎ (P g + k * P (decay n rate) ≤ P (grown_times k n rate g) + k * HalfUlp)

pub one_stays : (n rate : ℕ) → Decay n rate → grown n rate 1·0 ≡ 1·0
one_stays n rate d = grown_full n rate d 1·0 one_fraction (omega (arith, one_P))

next : (n rate k : ℕ) (g : Float) → Decay n rate → Grows k g n rate → Grows (suc k) g n rate
next n rate k g d r = record { gain = grown_fraction n rate d (grown_times k n rate g) r.gain; risen = go r.risen (grown_risen n rate d (grown_times k n rate g) r.gain) }
  where
    more : (a b c e u : ℕ) → a + k * b ≤ c + k * u → c + b ≤ e + u → a + suc k * b ≤ e + suc k * u
    more a b c e u x y = omega arith

    go : (grown_times k n rate g ≡ 1·0) ⊎ (P g + k * P (decay n rate) ≤ P (grown_times k n rate g) + k * HalfUlp)
        → (grown_times (suc k) n rate g ≡ 1·0) ⊎ (P (grown_times k n rate g) + P (decay n rate) ≤ P (grown_times (suc k) n rate g) + HalfUlp)
        → (grown_times (suc k) n rate g ≡ 1·0) ⊎ (P g + suc k * P (decay n rate) ≤ P (grown_times (suc k) n rate g) + suc k * HalfUlp)
    go (inl e) t = inl (ap (grown n rate) e ∙ one_stays n rate d)
    go (inr e) (inl t) = inl t
    go (inr e) (inr t) = inr (more (P g) (P (decay n rate)) (P (grown_times k n rate g)) (P (grown_times (suc k) n rate g)) HalfUlp e t)

pub grows : (n rate : ℕ) → Decay n rate → (k : ℕ) (g : Float) → Fraction g → Grows k g n rate
grows n rate d zero g p = record { gain = p; risen = inr (omega arith) }
grows n rate d (suc k) g p = next n rate k g d (grows n rate d k g p)

-- a gain in (0, 1] stays there
pub grown_gain : (n rate : ℕ) → Decay n rate → (g : Float) → Gain g → Gain (grown n rate g)
grown_gain n rate d g k =
    let f : Fraction g = record { f32 = k.f32; plus = k.plus; most = k.most } in
    let h = grown_fraction n rate d g f in
    record { f32 = h.f32; plus = h.plus; some = le_trans k.some (grown_above n rate d g f); most = h.most }
