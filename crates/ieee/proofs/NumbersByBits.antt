-- A number by its bits is the number. Assumes nothing.
use mathlib.Core.Path.{◌≡◌, refl}
use lib.Ieee.{of_bits}
use Rattle.ieee.specs.Numbers.{0·0, 1·0, 0·9, 0·0f, 1·0f, 0·9f}

pub zero_bits : 0·0f ≡ 0·0
unfolding of_bits
zero_bits = refl

pub one_bits : 1·0f ≡ 1·0
unfolding of_bits
one_bits = refl

pub nine_tenths_bits : 0·9f ≡ 0·9
unfolding of_bits
nine_tenths_bits = refl
