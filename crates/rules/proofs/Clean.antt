-- What a renderer keeps between calls is finite. Assumes nothing beyond `Facts`.
use mathlib.Core.Path.{sym, subst}
use mathlib.Core.Logic.{inl, inr}
use mathlib.Core.List.{List, [], ◌∷◌}
use Prim.Native.Nat.{ℕ, ◌≤◌}
use native.Mathlib.Omega.{arith}
use lib.Ieee.{Float, binary32, of_bits}
use Rattle.ieee.specs.Units.{F32}
use Rattle.ieee.specs.Bounds.{All}
use Rattle.ieee.proofs.Constants.{zero_f32}
use Rattle.lowpass.specs.declared.BiquadLowpassState.{BiquadLowpassState}
use Rattle.lowpass.proofs.Calm.{Calm}
use Rattle.rules.specs.Leaves.{Leaves}
use Rattle.rules.specs.Samples.{State, idle}
use Rattle.rules.specs.BlockCalls.{Layout}
use Rattle.rules.specs.Demand3.{nine, Clean}
use Rattle.rules.proofs.EachOf.{all_map}
use Rattle.rules.proofs.Owed.{Facts}
use Rattle.rules.proofs.Invariant.{Steady, Rest}
use Rattle.rules.proofs.Ringing.{Fed}

calm_nine : {X : ℕ} (f : BiquadLowpassState) → Calm X f → All F32 (nine f)
calm_nine f c =
    let h = c.held in
    let k = h.known in
    let memory : All F32 (f.x1 ∷ f.x2 ∷ f.y1 ∷ f.y2 ∷ []) = (h.x1_small.f32, (h.x2_small.f32, (h.y1_f32, (h.y2_small.f32, tt)))) in
    (k.a1_is.f32, (k.a2_is.f32, (k.b0_is.f32, (k.b1_is.f32, (k.b2_is.f32, memory)))))

idle_nine : All F32 (nine idle)
idle_nine = let z = zero_f32 in (z, (z, (z, (z, (z, (z, (z, (z, (z, tt)))))))))

module _ (L : Leaves) (B : Layout L) (F : Facts L B) (r : State L) where
  with_filter : Steady L B F r → All F32 (nine r.filter) → Clean L r
  with_filter s f = record { gain = s.gain; filter = f; places = λ c l. all_map F32 (of_bits binary32) (r.pending.places c) (s.places c) }

  pub clean : {xs : List Float} → Rest L B F r → Fed L xs r → Clean L r
  clean (inr g) h = with_filter g.steady (calm_nine r.filter g.calm)
  clean (inl g) h = with_filter g.steady
      (elim h.since [ inl s ↦ subst (λ (f : BiquadLowpassState). All F32 (nine f)) (sym s.2) idle_nine | inr s ↦ absurd (never s.0.low) ])
    where
      never : 8000 ≤ r.rate → ⊥
      never low = let z = g.rate in omega arith
