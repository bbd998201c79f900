-- A finite f32 is its sign and its size: two with the same sign and the same size are the same float. So x + 0.0, x * 1.0 and 0.0 - x give x or -x itself, and not only its value.
-- Assumes nothing.
use mathlib.Core.Path.{◌≡◌, refl, sym, ap, ap₂, ◌∙◌}
use Prim.Native.Nat.{ℕ, ◌+◌, ◌<◌}
use native.Mathlib.Omega.{arith}
use mathlib.Core.Bool.{Bool, true, false, cond}
use lib.Ieee.{Float, binary32, of_bits}
use lib.Ieee.Bits.{of_bits-to_bits}
use Rattle.ieee.proofs.Value.{F32, sign, mag, P, N, Is}
use Rattle.ieee.proofs.Bits.{pattern, to_bits_is}

pub unique : (x y : Float) → F32 x → F32 y → sign x ≡ sign y → mag x ≡ mag y → x ≡ y
unique x y f g s m =
    sym (of_bits-to_bits binary32 x f.fit)
    ∙ ap (of_bits binary32) (to_bits_is x f.fine ∙ ap₂ (λ (b : Bool) (n : ℕ). cond b 2147483648 0 + pattern n) s m ∙ sym (to_bits_is y g.fine))
    ∙ of_bits-to_bits binary32 y g.fit

-- where the value is not 0 it has the sign in it
pub same_value : (x z : Float) → F32 x → F32 z → P z ≡ P x → N z ≡ N x → 0 < mag x → z ≡ x
same_value x z f g p n h = let e = go (sign x) (sign z) (mag x) (mag z) p n h in unique z x g f e.0 e.1
  where
    go : (s t : Bool) (a b : ℕ) → cond t 0 b ≡ cond s 0 a → cond t b 0 ≡ cond s a 0 → 0 < a → (t ≡ s) × (b ≡ a)
    go false false a b p n h = (refl, p)
    go true true a b p n h = (refl, n)
    go false true a b p n h = absurd (none a p h)
      where
        none : (a : ℕ) → 0 ≡ a → 0 < a → ⊥
        none a e h = omega arith
    go true false a b p n h = absurd (none a n h)
      where
        none : (a : ℕ) → 0 ≡ a → 0 < a → ⊥
        none a e h = omega arith

-- a result of known sign and size
pub is_same : {x z : Float} → F32 x → Is z (sign x) (mag x) → z ≡ x
is_same {x} {z} f i = unique z x i.f32 f i.signed i.size
