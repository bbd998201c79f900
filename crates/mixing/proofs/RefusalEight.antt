-- Refusal 8 by bits and by size: a sample passes exactly if its bits are small, and is then finite and of size at most 16. Assumes nothing.
use mathlib.Core.Path.{◌≡◌, refl, sym, ap, ◌∙◌, subst}
use mathlib.Core.Logic.{◌↔◌, inl, inr}
use mathlib.Core.Bool.{Bool, true, false, not}
use mathlib.Core.List.{List}
use Prim.Native.Nat.{ℕ, ◌+◌, ◌*◌, ◌%◌, ◌^◌, ◌<◌}
use native.Mathlib.Omega.{arith}
use borrow.Author.Tests.{lt-leb}
use lib.Dec.{T, leb→le, le→leb}
use lib.Ieee.{binary32, is_nan, of_bits, to_bits}
use lib.Ieee.Bits.{of_bits-fits, to_bits-of_bits, nan_bits_is}
use Rattle.words.specs.Words.{word, float_at}
use Rattle.words.proofs.Nan.{above, not_above}
use Rattle.ieee.specs.Units.{One, mag}
use Rattle.ieee.specs.Bounds.{Bounded}
use Rattle.ieee.proofs.Grid.{le_or_lt}
use Rattle.ieee.proofs.Constants.{sixteen_f32, sixteen_P}
use Rattle.ieee.proofs.Bits.{bits_bounded}
use Rattle.ieee.proofs.Bound.{between_bounded}
use Rattle.mixing.specs.FrameSamples.{16·0, within16, passes, all_pass}
use Rattle.mixing.specs.SampleBits.{small_bits}
use Rattle.mixing.proofs.Passes.{nan_outside, pass_at}

same_test : (a b : Bool) → (T a → T b) → (T b → T a) → a ≡ b
same_test true true f g = refl
same_test true false f g = absurd (f tt)
same_test false true f g = absurd (g tt)
same_test false false f g = refl

sixteen_bits : to_bits binary32 16·0 % 2147483648 ≡ 1098907648
unfolding to_bits
sixteen_bits = refl

within_bounded : (w : ℕ) → T (within16 (of_bits binary32 w)) ↔ Bounded (mag 16·0) (of_bits binary32 w)
within_bounded w = between_bounded 16·0 (of_bits binary32 w) sixteen_f32 refl (of_bits-fits binary32 w)

pub passes_meant : (w : ℕ) → w < 2 ^ 32 → small_bits w ≡ passes w
passes_meant w less = elim (le_or_lt (w % 2147483648) 2139095040) [
  | inr h ↦ lt-leb (w % 2147483648) 1098907648 (omega arith) ∙ sym nan_outside ∙ ap within16 (above w h)
  | inl h ↦
      let x = of_bits binary32 w in
      let number : T (not (is_nan x)) = subst (λ (b : Bool). T (not b)) (nan_bits_is binary32 w) (not_above w h) in
      let bits : to_bits binary32 x ≡ w = to_bits-of_bits binary32 w less number in
      let i = bits_bounded 16·0 x sixteen_f32 (of_bits-fits binary32 w) number in
      same_test (small_bits w) (passes w)
      (λ t. (within_bounded w).1 (i.0 (omega (arith, leb→le (w % 2147483648) 1098907648 t, bits, sixteen_bits))))
      (λ t. le→leb (w % 2147483648) 1098907648 (omega (arith, i.1 ((within_bounded w).0 t), bits, sixteen_bits)))
]

-- sample k of a run that passes
pub sample_bounded : (pcm : List ℕ) (at n : ℕ) → all_pass pcm at n ≡ true → (k : ℕ) → k < n → Bounded (16 * One) (float_at pcm (at + 4 * k))
unfolding float_at
sample_bounded pcm at n p k h =
    let w = word pcm (at + 4 * k) in
    subst (λ (m : ℕ). Bounded m (of_bits binary32 w)) sixteen_P ((within_bounded w).0 (subst T (sym (pass_at pcm at n p k h)) tt))
