-- A row that starts with the sums of the run's samples so far: more of them, written into a part that is lent or at one place. Assumes nothing.
use mathlib.Core.Path.{◌≡◌, refl, sym, ap, ap₂, ◌∙◌}
use mathlib.Core.List.{List, [], ◌∷◌, ◌++◌, append_assoc}
use Prim.Native.Nat.{ℕ, suc, ◌+◌, ◌<◌}
use native.Mathlib.Omega.{arith}
use native.Mathlib.Numerals.{add-one}
use lib.ListN.{length, set, take, drop, length-append, length-drop}
use lib.Seq.{take_at, drop_at, drop-drop, set_split}
use lib.Ieee.{Float}
use Rattle.render.specs.declared.lists.Fed.{Fed}
use Rattle.render.specs.Listed.{sum_at, sums_at}
use Rattle.render.proofs.Summed.{length_sums, sums_then}

module _ (pcm : List ℕ) (n : ℕ) (fs : List Fed) (t : ℕ) (r row : List Float) (i : ℕ) (e : row ≡ sums_at pcm n fs t i ++ drop i r) where
  abbrev front : List Float
  front = sums_at pcm n fs t i

  -- the sums of the k samples behind them
  pub row_then : (k j m : ℕ) (new : List Float) → m ≡ k → j ≡ i + k → new ≡ sums_at pcm n fs (t + i) k
      → take i row ++ (new ++ drop m (drop i row)) ≡ sums_at pcm n fs t j ++ drop j r
  row_then k j m new p q s =
      let long = length_sums pcm n fs t i in
      let a = ap (take i) e ∙ take_at front (drop i r) i long in
      let b = ap₂ drop p (ap (drop i) e ∙ drop_at front (drop i r) i long) ∙ drop-drop k i r ∙ ap (λ (x : ℕ). drop x r) (sym q) in
      ap₂ (λ (x y : List Float). x ++ (new ++ y)) a b
      ∙ sym (append_assoc front new (drop j r))
      ∙ ap (λ (x : List Float). x ++ drop j r) (ap (λ (x : List Float). front ++ x) s ∙ sym (sums_then pcm n fs t (t + i) i k j refl q))

  -- that of one sample
  pub row_set : (v : Float) → i < length r → v ≡ sum_at pcm n fs (t + i) → set row i v ≡ sums_at pcm n fs t (i + 1) ++ drop (i + 1) r
  row_set v h s =
      let long : length row ≡ length r = ap length e ∙ length-append front (drop i r) ∙ omega (arith, length_sums pcm n fs t i, length-drop i r) in
      let b : drop (suc i) row ≡ drop 1 (drop i row) = ap (λ (x : ℕ). drop x row) (sym (add-one i)) ∙ sym (drop-drop 1 i row) in
      set_split row i v (omega arith) ∙ ap (λ (x : List Float). take i row ++ (v ∷ x)) b ∙ row_then 1 (i + 1) 1 (v ∷ []) refl refl (ap (λ (x : Float). x ∷ []) s)
