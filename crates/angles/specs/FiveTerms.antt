-- A reader may skip this file: the f32 meant, as it can be computed. The sum of five terms, rounded, is the f32 meant at every rate that is accepted (`cosine_meant`,
-- `sine_meant`), and no other f32 is (`cosine_only`, `sine_only`); so the coefficients made of these sums are the low-pass's, and no others are (`lowpass_meant`,
-- `lowpass_only`; all in proofs/MeantAtRates). Assumes nothing.
use Rattle.std.specs.Prelude.{ℕ, Float}
use Rattle.angles.specs.Angle.{w0, partial}
use Rattle.angles.specs.Filter.{coefficients_of}
use Rattle.angles.specs.declared.filter.Coefficients.{Coefficients}

unfoldable pub cosine : Float → Float
unfolding partial
cosine x = partial 0 x 4

unfoldable pub sine : Float → Float
unfolding partial
sine x = partial 1 x 4

abbrev pub coefficients_at : ℕ → Coefficients
coefficients_at rate = coefficients_of (cosine (w0 rate)) (sine (w0 rate))
