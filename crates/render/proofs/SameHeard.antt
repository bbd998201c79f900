-- Runs of moments at which the same is heard. Assumes nothing.
use mathlib.Core.Path.{◌≡◌, refl, ap, ap₂, ◌∙◌}
use mathlib.Core.Bool.{cond}
use mathlib.Core.List.{List, [], ◌∷◌, ◌++◌}
use Prim.Native.Nat.{ℕ, zero, suc}
use lib.Dec.{eqb}
use lib.Ieee.{Float}
use Rattle.lowpass.specs.Lowpass.{output, next}
use Rattle.lowpass.specs.declared.BiquadLowpassState.{BiquadLowpassState}
use Rattle.rules.specs.Mix.{Moment, heard, fed}
use Rattle.rules.specs.Samples.{row}
use Rattle.render.specs.Run.{filter_after, row_run}

-- moments at which the same is heard
module _ (m n : ℕ → Moment) (same : (t c : ℕ) → heard (m t) c ≡ heard (n t) c) where
  pub row_as : (low : BiquadLowpassState) (c t : ℕ) → row (m t) low c ≡ row (n t) low c
  row_as low c t = ap₂ (λ (x y : Float). cond (eqb c 3) (output low x ∷ []) (y ∷ [])) (same t 3) (same t c)

  pub filter_as : (low : BiquadLowpassState) (t k : ℕ) → filter_after m low t k ≡ filter_after n low t k
  filter_as low t zero = refl
  filter_as low t (suc k) = ap (λ (x : Float). filter_after m (next low x) (suc t) k) (same t 3) ∙ filter_as (next low (fed (n t))) (suc t) k

  pub run_as : (low : BiquadLowpassState) (c t k : ℕ) → row_run m low c t k ≡ row_run n low c t k
  run_as low c t zero = refl
  run_as low c t (suc k) =
      ap₂ (λ (a b : List Float). a ++ b) (row_as low c t)
      (ap (λ (x : Float). row_run m (next low x) c (suc t) k) (same t 3) ∙ run_as (next low (fed (n t))) c (suc t) k)
