-- The low-pass, a sample at a time and over a list. Document 01, item 6: "Sums in the source's order. The filter's memory is four past values beside five coefficients."
-- x1 and x2 are the last samples fed, y1 and y2 the last filtered; x1 and y1 are the later ones. Assumes nothing.
use Rattle.std.specs.Prelude.{List, [], ◌∷◌, ℕ, Float}
use Rattle.std.specs.Float.Ieee.{add, sub, mul}
use Rattle.std.specs.Float.{binary32}
use Rattle.angles.specs.FiveTerms.{coefficients_at}
use Rattle.angles.specs.declared.filter.Coefficients.{Coefficients}
pub use Rattle.lowpass.specs.declared.BiquadLowpassState.{BiquadLowpassState}
pub use Rattle.ieee.specs.Numbers.{0·0}

-- nothing fed yet
abbrev pub unfed : Coefficients → BiquadLowpassState
unfed c = record { a1 = c.a1; a2 = c.a2; b0 = c.b0; b1 = c.b1; b2 = c.b2; x1 = 0·0; x2 = 0·0; y1 = 0·0; y2 = 0·0 }

-- Document 01, item 1: "`BiquadLowpassState::new` gives the coefficients from them", the cosine and the sine of w0: those of `LowpassAt` of angles/specs/Filter (`new_meant`)
unfoldable pub new : ℕ → BiquadLowpassState
new rate = unfed (coefficients_at rate)

-- b2 * x2 + b1 * x1 + b0 * x - a1 * y1 - a2 * y2, each operation rounded, from the left
abbrev pub output : BiquadLowpassState → Float → Float
output f x =
    sub binary32 (sub binary32 (add binary32 (add binary32 (mul binary32 f.b2 f.x2) (mul binary32 f.b1 f.x1)) (mul binary32 f.b0 x))
    (mul binary32 f.a1 f.y1)) (mul binary32 f.a2 f.y2)

-- the filter after the sample x
abbrev pub next : BiquadLowpassState → Float → BiquadLowpassState
next f x = record { a1 = f.a1; a2 = f.a2; b0 = f.b0; b1 = f.b1; b2 = f.b2; x1 = x; x2 = f.x1; y1 = output f x; y2 = f.y1 }

abbrev pub filtered : BiquadLowpassState → List Float → List Float
filtered f [] = []
filtered f (x ∷ xs) = output f x ∷ filtered (next f x) xs

abbrev pub after_all : BiquadLowpassState → List Float → BiquadLowpassState
after_all f [] = f
after_all f (x ∷ xs) = after_all (next f x) xs
