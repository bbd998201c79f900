-- How soon the level returns: k blocks of 64 that do not lower the gain end with gain 1, from any gain from 0 to 1, where 64 k is at least the rate and 65 more; so k =
-- floor(rate / 64) + 2 do. Assumes nothing.
use mathlib.Core.Path.{◌≡◌, refl, ap, ◌∙◌, subst}
use mathlib.Core.Logic.{◌⊎◌, inl, inr}
use Prim.Native.Nat.{ℕ, zero, suc, ◌+◌, ◌-◌, ◌*◌, ◌/◌, ◌≤◌, ◌<◌}
use native.Mathlib.Nat.{mul-le-mul, mul-le-mul_right}
use native.Mathlib.Omega.{arith}
use lib.Dec.{lit<}
use lib.Ieee.{Float}
use Rattle.ieee.specs.Units.{One, P}
use Rattle.limiter.specs.Limiter.{1·0, decay, grown}
use Rattle.limiter.specs.BlockInRange.{Fraction, grown_times}
use Rattle.limiter.proofs.Growth.{Decay, decay_is, HalfUlp, Grows, grows, one_stays}

one_half : One ≡ 33554432 * HalfUlp
unfolding One HalfUlp
one_half = refl

half_pos : 0 < HalfUlp
unfolding HalfUlp
half_pos = lit< tt

-- p is the decay, k the blocks: k * p cannot stay at or below 1 + k half units
late : (k rate p o h : ℕ) → o ≡ 33554432 * h → 0 < h → rate + 65 ≤ 64 * k → rate ≤ 192000 → k ≤ 3002 → 16777216 * (64 * o) ≤ 16777216 * (p * rate) + (64 * o + 8388608 * rate)
    → k * p ≤ o + k * h → ⊥
late k rate p o h e pos b r l n c =
    let kr : k * rate ≤ 3002 * 192000 = mul-le-mul l r in
    let krh : k * rate * h ≤ 3002 * 192000 * h = mul-le-mul_right h kr in
    let ro : rate * o ≤ 192000 * o = mul-le-mul_right o r in
    let bo : (rate + 65) * o ≤ 64 * k * o = mul-le-mul_right o b in
    let nk : 16777216 * (64 * o) * k ≤ (16777216 * (p * rate) + (64 * o + 8388608 * rate)) * k = mul-le-mul_right k n in
    let cr : k * p * rate ≤ (o + k * h) * rate = mul-le-mul_right rate c in
    omega arith

module _ (rate : ℕ) (a : 8000 ≤ rate) (b : rate ≤ 192000) (g : Float) (f : Fraction g) where
  d : Decay 64 rate
  d = decay_is 64 rate (omega arith) (omega arith) (omega arith)

  -- as few as it takes
  full_at : (k : ℕ) → rate + 65 ≤ 64 * k → k ≤ 3002 → grown_times k 64 rate g ≡ 1·0
  full_at k l n = go r.risen
    where
      r : Grows k g 64 rate
      r = grows 64 rate d k g f

      go : (grown_times k 64 rate g ≡ 1·0) ⊎ (P g + k * P (decay 64 rate) ≤ P (grown_times k 64 rate g) + k * HalfUlp) → grown_times k 64 rate g ≡ 1·0
      go (inl e) = e
      go (inr e) = absurd (late k rate (P (decay 64 rate)) One HalfUlp one_half half_pos l b n d.near.below (omega (arith, e, r.gain.most)))

  -- and it stays
  full_past : (j k n : ℕ) → j + k ≡ n → grown_times k 64 rate g ≡ 1·0 → grown_times n 64 rate g ≡ 1·0
  full_past zero k n h e = let s : k ≡ n = omega arith in subst (λ (i : ℕ). grown_times i 64 rate g ≡ 1·0) s e
  full_past (suc j) k zero h e = absurd (omega arith)
  full_past (suc j) k (suc n) h e = ap (grown 64 rate) (full_past j k n (omega arith) e) ∙ one_stays 64 rate d

  -- "floor(rate / 64) + 2" are so many: 64 times that is at least the rate and 65 more
  pub full_after : (k : ℕ) → rate + 65 ≤ 64 * k → grown_times k 64 rate g ≡ 1·0
  full_after k l =
      let m = rate / 64 + 2 in
      full_past (k - m) m k (omega arith) (full_at m (omega arith) (omega arith))
