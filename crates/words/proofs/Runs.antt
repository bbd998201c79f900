-- Runs of words and of floats: their lengths and elements, one more of them, and the length of a list that was written to. Assumes nothing.
use mathlib.Core.Path.{◌≡◌, refl, sym, ap, ◌∙◌}
use mathlib.Core.List.{List, [], ◌∷◌, ◌++◌}
use Prim.Native.Nat.{ℕ, zero, suc, ◌+◌, ◌*◌, ◌<◌}
use native.Mathlib.Nat.{not-suc-le-zero, le_of_suc-le-suc}
use native.Mathlib.Omega.{arith}
use lib.ListN.{length, get_or}
use lib.Ieee.{Float}
use Rattle.words.specs.Words.{with_word, float_at, with_words, floats_at}
use Rattle.words.proofs.Numbers.{length_kept}

pub run_length_kept : (s : List ℕ) (at : ℕ) (ws : List ℕ) → length (with_words s at ws) ≡ length s
run_length_kept s at [] = refl
run_length_kept s at (w ∷ ws) = run_length_kept (with_word s at w) (at + 4) ws ∙ length_kept s at 4 w

place : (at i : ℕ) → at + 4 + 4 * i ≡ at + 4 * suc i
place at i = omega arith

pub write_more : (s : List ℕ) (at : ℕ) (ws : List ℕ) (w : ℕ) → with_word (with_words s at ws) (at + 4 * length ws) w ≡ with_words s at (ws ++ (w ∷ []))
write_more s at [] w = ap (λ (k : ℕ). with_word s k w) (let e : at + 4 * zero ≡ at = omega arith in e)
write_more s at (x ∷ ws) w = ap (λ (k : ℕ). with_word (with_words (with_word s at x) (at + 4) ws) k w) (sym (place at (length ws))) ∙ write_more (with_word s at x) (at + 4) ws w

-- ---- floats

module _ (s : List ℕ) where
  pub length_floats : (at n : ℕ) → length (floats_at s at n) ≡ n
  length_floats at zero = refl
  length_floats at (suc n) = ap suc (length_floats (at + 4) n)

  pub float_at_is : (at n i : ℕ) (d : Float) → i < n → get_or (floats_at s at n) i d ≡ float_at s (at + 4 * i)
  float_at_is at zero i d h = absurd (not-suc-le-zero h)
  float_at_is at (suc n) zero d h = ap (float_at s) (omega arith)
  float_at_is at (suc n) (suc i) d h = float_at_is (at + 4) n i d (le_of_suc-le-suc h) ∙ ap (float_at s) (place at i)

  pub floats_more : (at n : ℕ) → floats_at s at (suc n) ≡ floats_at s at n ++ (float_at s (at + 4 * n) ∷ [])
  floats_more at zero = ap (λ (k : ℕ). float_at s k ∷ []) (omega arith)
  floats_more at (suc n) = ap (λ (t : List Float). float_at s at ∷ t) (floats_more (at + 4) n ∙ ap (λ (k : ℕ). floats_at s (at + 4) n ++ (float_at s k ∷ [])) (place at n))
