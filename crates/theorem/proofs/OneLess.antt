-- At 68,159 samples a second nothing is to spare: 1,065 silent blocks, one less than floor(68,159 / 64) + 2, leave a gain of 0 below 1. Assumes nothing.
use mathlib.Core.Path.{◌≡◌, refl}
use mathlib.Core.Bool.{true}
use lib.ListN.{replicate}
use lib.Ieee.{lt, add, mul, div, of_int}
use Rattle.limiter.specs.Limiter.{0·0, 1·0, lowered, grown}
use Rattle.limiter.specs.Return.{after_blocks}

pub one_less : lt (after_blocks 68159 0·0 (replicate 1065 0·0)) 1·0 ≡ true
unfolding lt mul add div of_int lowered grown
one_less = refl
