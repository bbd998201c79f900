-- What the test of `lower` says of the gain that it leaves, with the literals as the code has them. Assumes nothing.
use mathlib.Core.Path.{◌≡◌, sym, ap}
use mathlib.Core.Bool.{Bool, true, false, cond}
use lib.Ieee.{Float, binary32, of_bits, lt, mul, div}
use Rattle.limiter.specs.Limiter.{0·9, lowered}

pub lowered_above : (p g : Float) → lt (of_bits binary32 1065353216) (mul binary32 p g) ≡ true → div binary32 (of_bits binary32 1063675494) p ≡ lowered p g
unfolding of_bits lowered
lowered_above p g h = sym (ap (λ (b : Bool). cond b (div binary32 0·9 p) g) h)

pub lowered_below : (p g : Float) → lt (of_bits binary32 1065353216) (mul binary32 p g) ≡ false → g ≡ lowered p g
unfolding of_bits lowered
lowered_below p g h = sym (ap (λ (b : Bool). cond b (div binary32 0·9 p) g) h)
