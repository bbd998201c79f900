-- The bounds, at work at 8,000 samples a second. A steady sample is exceeded, so once the largest is too little; and the sample itself must count. A loud past stays above twice
-- a quiet presence at first and leaves in time; not in a sixteenth of the time, nor sixteen halvings in the time of one. Assumes nothing.
use mathlib.Core.List.{List, [], ◌∷◌, ◌++◌}
use Prim.Native.Nat.{ℕ, ◌+◌, ◌*◌, ◌/◌, ◌^◌, ◌≤◌, ◌<◌}
use lib.Dec.{lit≤, lit<}
use lib.ListN.{replicate}
use lib.Ieee.{Float, binary32, of_int, of_bits, sub, mul, div}
use Rattle.ieee.specs.Units.{mag}
use Rattle.ieee.specs.Small.{absolute}
use Rattle.angles.specs.Angle.{w0}
use Rattle.angles.specs.Filter.{coefficients_of}
use Rattle.angles.specs.FiveTerms.{cosine, sine}
use Rattle.lowpass.specs.Lowpass.{0·0, new, after_all}
use Rattle.lowpass.specs.Bound.{Range, largest}
use Rattle.lowpass.specs.Forgets.{halvings, Subsided}

-- 1.0, 0.5 and 2 ^ -50
abbrev one : Float
one = of_bits binary32 0x3f800000

abbrev half : Float
half = of_bits binary32 0x3f000000

abbrev tiny : Float
tiny = of_bits binary32 0x26800000

-- a steady 1.0 for 48 samples
abbrev loud : List Float
loud = replicate 48 one

-- the size of the last output
abbrev heard : List Float → ℕ
heard xs = mag (after_all (new 8000) xs).y1

pub exceeds : Range (largest loud) × (1 * largest loud < heard loud)
unfolding new coefficients_of cosine sine w0 absolute mag of_int of_bits sub mul div
exceeds = (record { low = lit≤ tt; high = lit≤ tt }, lit< tt)

-- 2 ^ -50, then 1.0: more than twice what was fed before
pub counts_itself : Range (largest (tiny ∷ [])) × (2 * largest (tiny ∷ []) < heard (tiny ∷ one ∷ []))
unfolding new coefficients_of cosine sine w0 absolute mag of_int of_bits sub mul div
counts_itself = (record { low = lit≤ tt; high = lit≤ tt }, lit< tt)

-- then 0.5: the past is above twice that, one halving later it has left, and the presence is heard
abbrev quieter : List Float
quieter = loud ++ replicate (halvings 8000 1) half

pub past_leaves : (2 * mag half < heard loud) × Subsided 8000 1 (mag half) quieter × (heard quieter ≤ 2 * mag half) × (0 < heard quieter)
unfolding new coefficients_of cosine sine w0 absolute mag of_int of_bits sub mul div
past_leaves = (lit< tt, record { low = lit≤ tt; high = lit≤ tt; past = lit≤ tt; present = lit≤ tt }, lit≤ tt, lit< tt)

-- then silence: 2 ^ -7 of the past is exceeded twofold, were a halving to take rate / 1024
pub too_soon : (largest loud ≤ 2 ^ 7 * 2 ^ 142) × (2 * 2 ^ 142 < heard (loud ++ replicate (7 * (8000 / 1024 + 1) + 2) 0·0))
unfolding new coefficients_of cosine sine w0 absolute mag of_int of_bits sub mul div
too_soon = (lit≤ tt, lit< tt)

-- and 2 ^ -16 of it, after one halving
pub one_for_sixteen : (largest loud ≤ 2 ^ 16 * 2 ^ 133) × (2 * 2 ^ 133 < heard (loud ++ replicate (halvings 8000 1) 0·0))
unfolding new coefficients_of cosine sine w0 absolute mag of_int of_bits sub mul div
one_for_sixteen = (lit≤ tt, lit< tt)
