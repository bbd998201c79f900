-- Samples out of bytes: one more of a row, and all of them. Assumes nothing.
use mathlib.Core.Path.{◌≡◌, sym, ap, ◌∙◌}
use mathlib.Core.List.{List, [], ◌∷◌, ◌++◌, append_assoc, append-nil}
use Prim.Native.Nat.{ℕ, suc, ◌+◌, ◌*◌, ◌<◌, ◌≤◌}
use native.Mathlib.Omega.{arith}
use native.Mathlib.Numerals.{add-one}
use lib.ListN.{length, get_or, set, drop}
use lib.Seq.{set_at, drop-cons, drop-length}
use lib.Ieee.{Float, nan}
use Rattle.words.specs.Words.{float_at}
use Rattle.words.proofs.Runs.{floats_more}
pub use Rattle.words.proofs.Runs.{length_floats as length-samples, float_at_is as sample-at}
use Rattle.mixing.specs.FrameSamples.{samples}

module _ (s : List ℕ) where
  step : (at i : ℕ) (r : List Float) → i < length r → set (samples s at i ++ drop i r) i (float_at s (at + 4 * i)) ≡ samples s at (i + 1) ++ drop (i + 1) r
  step at i r h =
      let v = float_at s (at + 4 * i) in
      let xs = samples s at i in
      ap (λ (t : List Float). set (xs ++ t) i v) (drop-cons r i nan h)
      ∙ set_at xs (get_or r i nan) (drop (suc i) r) v i (length-samples s at i)
      ∙ sym (append_assoc xs (v ∷ []) (drop (suc i) r))
      ∙ ap (λ (t : List Float). t ++ drop (suc i) r) (sym (floats_more s at i))
      ∙ ap (λ (k : ℕ). samples s at k ++ drop k r) (sym (add-one i))

  -- one sample more
  pub samples_step : (at i : ℕ) (r row : List Float) (v : Float) → i < length r → row ≡ samples s at i ++ drop i r → v ≡ float_at s (at + 4 * i)
      → set row i v ≡ samples s at (i + 1) ++ drop (i + 1) r
  samples_step at i r row v h p q = rw (p, q) (step at i r h)

  -- all of them
  pub samples_all : (at i : ℕ) (r : List Float) → i ≤ length r → length r ≤ i → samples s at i ++ drop i r ≡ samples s at (length r)
  samples_all at i r h k =
      let e : i ≡ length r = omega arith in
      rw (e, drop-length) (append-nil (samples s at (length r)))
