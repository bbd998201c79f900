-- Numbers that document 01 names. Assumes nothing.
use Rattle.std.specs.Prelude.{false, pos, negsuc, Float}
use Rattle.std.specs.Float.{fin, binary32}
use Rattle.std.specs.Float.Ieee.{of_bits}

abbrev pub 0·0 : Float
0·0 = fin false 0 (pos 0)

abbrev pub 1·0 : Float
1·0 = fin false 1 (pos 0)

-- the f32 nearest to 0.9
abbrev pub 0·9 : Float
0·9 = fin false 7549747 (negsuc 22)

-- the largest gain, and the largest sample
abbrev pub 8·0 : Float
8·0 = fin false 1 (pos 3)

abbrev pub 16·0 : Float
16·0 = fin false 1 (pos 4)

-- ---- the same by their bits, which is how code has them (`zero_bits`, `one_bits`, `nine_tenths_bits` of proofs/NumbersByBits)

abbrev pub 0·0f : Float
0·0f = of_bits binary32 0

abbrev pub 1·0f : Float
1·0f = of_bits binary32 0x3f800000

abbrev pub 0·9f : Float
0·9f = of_bits binary32 0x3f666666
