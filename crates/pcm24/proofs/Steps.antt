-- The step of the whole numbers in units; and a fraction of steps moved by a whole even number of them. Assumes nothing.
use mathlib.Core.Path.{◌≡◌, refl, sym, ap₂, ◌∙◌}
use Prim.Native.Nat.{ℕ, ◌+◌, ◌*◌, ◌/◌, ◌%◌, ◌≤◌, ◌<◌, compare, Ordering}
use native.Mathlib.Nat.{add-mul-div_right, add-mul-mod_self_right, le_of_eq}
use native.Mathlib.Omega.{arith}
use lib.Pow.{pow_pos}
use lib.Ieee.{nearest}
use lib.Ieee.Nearest.{closest}
use Rattle.ieee.specs.Units.{One}
use Rattle.ieee.proofs.Theorems.{closest_most, closest_least}
use Rattle.pcm24.specs.Codes.{Step}

pub steps_of_one : One ≡ 8388608 * Step
unfolding One Step
steps_of_one = refl

pub step_pos : 0 < Step
unfolding Step
step_pos = pow_pos 126

-- 8,388,608 whole steps more
moved : (w : ℕ) (o : Ordering) → nearest (w + 8388608) o ≡ 8388608 + nearest w o
moved w Ordering.lt = omega arith
moved w Ordering.eq = omega arith
moved w Ordering.gt = omega arith

pub closest_moved : (n d : ℕ) → 0 < d → closest (n + 8388608 * d) d ≡ 8388608 + closest n d
closest_moved n d D =
    ap₂ (λ (w r : ℕ). nearest w (compare (r * 2) d)) (add-mul-div_right n 8388608 D) (add-mul-mod_self_right n 8388608 d)
    ∙ moved (n / d) (compare (n % d * 2) d)

-- whole steps
pub closest_whole : (k d : ℕ) → 0 < d → closest (k * d) d ≡ k
closest_whole k d D = both (closest (k * d) d) k (closest_most (k * d) d k D (le_of_eq refl)) (closest_least (k * d) d k D (le_of_eq refl))
  where
    both : (a b : ℕ) → a ≤ b → b ≤ a → a ≡ b
    both a b h l = omega arith

-- a size of at most 1 has at most 8,388,608 steps
pub few_steps : (m : ℕ) → m ≤ One → closest m Step ≤ 8388608
few_steps m h = closest_most m Step 8388608 step_pos (rw (sym steps_of_one) h)
