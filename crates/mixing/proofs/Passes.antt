-- Refusal 8's test of a run of samples: one word more, each of them, and what passes is no NaN. Assumes nothing.
use mathlib.Core.Path.{◌≡◌, refl, sym, ap, subst, ◌∙◌}
use mathlib.Core.Logic.{inl, inr}
use mathlib.Core.Bool.{Bool, true, false, true≢false, ◌&&◌}
use mathlib.Core.List.{List}
use Prim.Native.Nat.{ℕ, zero, suc, ◌+◌, ◌*◌, ◌%◌, ◌<◌, ◌≤◌}
use native.Mathlib.Omega.{arith}
use native.Mathlib.Nat.{not-suc-le-zero, le_of_suc-le-suc}
use native.Mathlib.Numerals.{add-one}
use Rattle.std.proofs.Math.Bool.{and-true, and_assoc}
use lib.Dec.{T}
use lib.Ieee.{nan, neg, lt, le, eq}
use Rattle.words.specs.Words.{word}
use Rattle.words.proofs.Nan.{above}
use Rattle.ieee.proofs.Grid.{le_or_lt}
use Rattle.mixing.specs.FrameSamples.{within16, passes, all_pass}
use Rattle.mixing.specs.SampleBits.{Plain}

both : (a b : Bool) → (a && b) ≡ true → (a ≡ true) × (b ≡ true)
both true b e = (refl, e)
both false b e = absurd (subst T (sym e) tt)

pub nan_outside : within16 nan ≡ false
unfolding neg lt le eq
nan_outside = refl

word_plain : (w : ℕ) → passes w ≡ true → w % 0x8000_0000 ≤ 0x7f80_0000
word_plain w e = elim (le_or_lt (w % 0x8000_0000) 0x7f80_0000) [
  | inl l ↦ l
  | inr l ↦ absurd (true≢false (sym e ∙ ap within16 (sym (above w l)) ∙ nan_outside))
]

module _ (s : List ℕ) where
  more : (at n : ℕ) → all_pass s at (suc n) ≡ (all_pass s at n && passes (word s (at + 4 * n)))
  more at zero = and-true (passes (word s at)) ∙ ap (λ (k : ℕ). passes (word s k)) (omega arith)
  more at (suc n) =
      ap (λ (b : Bool). passes (word s at) && b) (more (at + 4) n ∙ ap (λ (k : ℕ). all_pass s (at + 4) n && passes (word s k)) (omega arith))
      ∙ sym (and_assoc (passes (word s at)) (all_pass s (at + 4) n) (passes (word s (at + 4 * suc n))))

  -- one word more
  pub pass_step : (at i : ℕ) {t v : Bool} → t ≡ all_pass s at i → v ≡ passes (word s (at + 4 * i)) → (t && v) ≡ all_pass s at (i + 1)
  pass_step at i p q = rw (p, q) (sym (more at i)) ∙ ap (all_pass s at) (sym (add-one i))

  -- each of them passes
  pub pass_at : (at n : ℕ) → all_pass s at n ≡ true → (k : ℕ) → k < n → passes (word s (at + 4 * k)) ≡ true
  pass_at at zero e k h = absurd (not-suc-le-zero h)
  pass_at at (suc n) e zero h = ap (λ (a : ℕ). passes (word s a)) (omega arith) ∙ (both (passes (word s at)) (all_pass s (at + 4) n) e).0
  pass_at at (suc n) e (suc k) h =
      ap (λ (a : ℕ). passes (word s a)) (omega arith) ∙ pass_at (at + 4) n (both (passes (word s at)) (all_pass s (at + 4) n) e).1 k (le_of_suc-le-suc h)

  -- and is no NaN
  pub pass_plain : (at n : ℕ) → all_pass s at n ≡ true → Plain s at n
  pass_plain at n e k h = word_plain (word s (at + 4 * k)) (pass_at at n e k h)
