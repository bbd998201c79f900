-- The cut sums give the f32 meant.
use mathlib.Core.Path.{◌≡◌, sym, ap, ◌∙◌, subst}
use Prim.Native.Nat.{ℕ, ◌*◌, ◌^◌, ◌<◌}
use native.Mathlib.Omega.{arith}
use Rattle.rates.specs.Series.{angle_of, cosine_sum, sine_sum}
use Rattle.angles.specs.Angle.{w0, Meant}
use Rattle.angles.proofs.Quotient.{angle_small, square_small}
use Rattle.angles.proofs.Settled.{meant}
use Rattle.angles.proofs.MeantAtRates.{made, cosine_found, sine_found}
use Rattle.angles.proofs.angle.Goals as goal
use Rattle.angles.proofs.angle.Goals.{After-angle_of-w}

module _ (c : After-angle_of-w) where
  is : c.angle_of-w.result ≡ angle_of c.args.rate
  is = c.angle_of-w.ensures ∙ ap angle_of c.from.ensures

  few : (c.angle_of-w.result < 2 ^ 29) × (c.angle_of-w.result * c.angle_of-w.result < 2 ^ 58)
  few = subst (λ (k : ℕ). (k < 2 ^ 29) × (k * k < 2 ^ 58)) (sym is) (angle_small c.requires, square_small c.requires)

  cosine_of : {n : ℕ} → n ≡ cosine_sum c.angle_of-w.result → (n < 2 ^ 60) × Meant 0 (w0 c.args.rate) (made n)
  cosine_of {n} f = let b = cosine_found c.requires n (f ∙ ap cosine_sum is) in (b.0, meant b.1)

  sine_of : {n : ℕ} → n ≡ sine_sum c.angle_of-w.result → (n < 2 ^ 60) × Meant 1 (w0 c.args.rate) (made n)
  sine_of {n} f = let b = sine_found c.requires n (f ∙ ap sine_sum is) in (b.0, meant b.1)

pub overflow_mul-y : goal.overflow_mul-y
overflow_mul-y c = let f = few (goal.at.overflow_mul-y c).After-angle_of-w in record { fits = omega (arith, f.1) }

pub overflow_mul-w : goal.overflow_mul-w
overflow_mul-w c = let f = few (goal.at.overflow_mul-w c).After-angle_of-w in record { fits = omega (arith, f.0) }

pub nearest-requires : goal.nearest-requires
nearest-requires c = (cosine_of (goal.at.nearest-requires c).After-angle_of-w c.five_terms-cos.ensures).0

pub nearest-requires-2 : goal.nearest-requires-2
nearest-requires-2 c = (sine_of (goal.at.nearest-requires-2 c).After-angle_of-w c.five_terms-sin.ensures).0

pub returns : goal.returns
returns c =
    let w = (goal.at.returns c).After-angle_of-w in (
      subst (Meant 0 (w0 c.args.rate)) (sym c.nearest.ensures) (cosine_of w c.five_terms-cos.ensures).1,
      subst (Meant 1 (w0 c.args.rate)) (sym c.nearest-2.ensures) (sine_of w c.five_terms-sin.ensures).1,
    )
