-- A channel's sum stays finite and bounded, whatever the terms' signs and order. Assumes nothing.
use mathlib.Core.Path.{◌≡◌, sym, subst}
use mathlib.Core.Bool.{Bool, true, false, cond}
use mathlib.Core.List.{List, [], ◌∷◌}
use Prim.Native.Nat.{ℕ, suc, ◌+◌, ◌*◌, ◌≤◌, ◌<◌}
use native.Mathlib.Nat.{le_trans, le_of_eq, le_of_lt, lt_of_le_of_lt, mul_assoc, mul-le-mul_right}
use native.Mathlib.Omega.{arith}
use lib.ListN.{length}
use lib.Ieee.{Float, binary32, add, mul, eq}
use Rattle.ieee.specs.Units.{One, Top}
use Rattle.ieee.specs.Numbers.{0·0, 0·0f}
use Rattle.ieee.specs.Bounds.{Bounded, All}
use Rattle.ieee.proofs.Value.{one_is}
use Rattle.ieee.proofs.Constants.{whole_grid, whole_less}
use Rattle.ieee.proofs.Bound.{bounded_by, zero_bounded, mul_bounded, next_bounded}
use Rattle.mixing.specs.Sums.{Addend, plus, total}

-- a sample of size at most s, and a coefficient of size at most c
pub record AddendWithin (s c : ℕ) (t : Addend) : Type 0 where
  pub sample : Bounded (s * One) t.sample
  pub coef : Bounded (c * One) t.coef

module _ (s c : ℕ) (small : s * c < 16777216) where
  term_bounded : (t : Addend) → AddendWithin s c t → Bounded (s * c * One) (mul binary32 t.sample t.coef)
  term_bounded t w = mul_bounded (whole_grid (s * c) small) (whole_less (s * c) (le_of_lt small)) (le_of_eq (product s c One)) w.sample w.coef
    where
      product : (s c o : ℕ) → s * o * (c * o) ≡ s * c * o * o
      product s c o = omega arith

  -- n terms are in a already
  from : (n : ℕ) (a : Float) (ts : List Addend) → (n + length ts) * (s * c) ≤ 16777216 → Bounded (n * (s * c * One)) a → All (AddendWithin s c) ts
      → Bounded ((n + length ts) * (s * c * One)) (total a ts)
  from n a [] h b w = bounded_by (mul-le-mul_right (s * c * One) (same n)) b
    where
      same : (n : ℕ) → n ≤ n + 0
      same n = omega arith
  from n a (t ∷ ts) h b w =
      subst (λ (m : ℕ). Bounded (m * (s * c * One)) (total (plus a t) ts)) e
      (from (suc n) (plus a t) ts (subst (λ (m : ℕ). m * (s * c) ≤ 16777216) (sym e) h) (go (eq t.coef 0·0f)) w.1)
    where
      e : suc n + length ts ≡ n + suc (length ts)
      e = omega arith

      short : suc n * (s * c) ≤ 16777216
      short = le_trans (mul-le-mul_right (s * c) (up n (length ts))) h
        where
          up : (n k : ℕ) → suc n ≤ n + suc k
          up n k = omega arith

      less : suc n * (s * c * One) < Top
      less = lt_of_le_of_lt (le_of_eq (sym (mul_assoc (suc n) (s * c) One))) (whole_less (suc n * (s * c)) short)

      go : (z : Bool) → Bounded (suc n * (s * c * One)) (cond z a (add binary32 a (mul binary32 t.sample t.coef)))
      go true = bounded_by (mul-le-mul_right (s * c * One) (more n)) b
        where
          more : (n : ℕ) → n ≤ suc n
          more n = omega arith
      go false = next_bounded (s * c) 149 one_is n short less b (term_bounded t w.0)

  -- at most m terms
  pub total_bounded : (m w : ℕ) (ts : List Addend) → length ts ≤ m → m * (s * c) ≤ w → w ≤ 16777216 → All (AddendWithin s c) ts → Bounded (w * One) (total 0·0 ts)
  total_bounded m w ts h k l q =
      bounded_by (le_trans (mul-le-mul_right (s * c * One) h') (le_trans (le_of_eq (sym (mul_assoc m (s * c) One))) (mul-le-mul_right One k)))
      (from 0 0·0 ts (le_trans (mul-le-mul_right (s * c) h') (le_trans k l)) (zero_bounded (0 * (s * c * One))) q)
    where
      h' : 0 + length ts ≤ m
      h' = omega arith
