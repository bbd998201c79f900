-- What the coefficients are made of at a rate r that is accepted: v = 2 ^ 24 (1 - cos) and alpha = a units, by their sizes; and that they are made of it. Assumes nothing.
use Prim.Native.Nat.{ℕ, ◌+◌, ◌*◌, ◌≤◌}
use native.Mathlib.Nat.{le_trans, mul-le-mul_left}
use native.Mathlib.Omega.{arith}
use Rattle.ieee.specs.Units.{One}
use Rattle.rates.specs.Rates.{Listed}
use Rattle.angles.specs.Angle.{w0}
use Rattle.angles.specs.FiveTerms.{cosine, sine}
use Rattle.angles.proofs.Made.{Made, made}
pub use Rattle.angles.proofs.Versed.{C, v, whole}
use Rattle.angles.proofs.Versed.{cosine_plus, v_some, v_few, v_high, v_low}
pub use Rattle.angles.proofs.Alpha.{a}
use Rattle.angles.proofs.Alpha.{alpha_plus, a_low, a_high}

pub record Sized (r v a : ℕ) : Type 0 where
  pub v_some : 4 ≤ v
  pub v_high : 2 * (v * (r * r)) ≤ 9538000000000 + r * r
  pub v_low : 9524000000000 ≤ 2 * (v * (r * r)) + r * r
  pub a_low : 531 * One ≤ a * r
  pub a_high : a * r ≤ 534 * One

pub sized : {r : ℕ} (l : Listed r) → Sized r (v l) (a l)
sized l = record { v_some = v_some l; v_high = v_high l; v_low = v_low l; a_low = a_low l; a_high = a_high l }

pub coefficients_made : {r : ℕ} (l : Listed r) → Made (cosine (w0 r)) (sine (w0 r)) (C l) (v l) (a l)
coefficients_made {r} l =
    made (cosine (w0 r)) (sine (w0 r)) (C l) (v l) (a l) (cosine_plus l) (alpha_plus l) (whole l) (v_some l) (v_few l)
    (least (a l) One (le_trans (a_low l) (mul-le-mul_left (a l) l.high))) (most (a l) One (le_trans (mul-le-mul_left (a l) l.low) (a_high l)))
  where
    least : (a o : ℕ) → 531 * o ≤ a * 192000 → o ≤ 362 * a
    least a o h = omega arith

    most : (a o : ℕ) → a * 8000 ≤ 534 * o → 8 * a ≤ o
    most a o h = omega arith
