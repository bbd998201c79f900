-- A reader may skip this file: a level, which is what a peak can be. No NaN, no sign. Assumes nothing.
use Rattle.std.specs.Prelude.{◌≡◌, false, T, Float}
use Rattle.std.specs.Float.{binary32}
use Rattle.std.specs.Float.Ieee.{fits, is_nan}
use Rattle.ieee.specs.Units.{sign}

pub record Level (m : Float) : Type 0 where
  pub fit : T (fits binary32 m)
  pub number : is_nan m ≡ false
  pub plus : sign m ≡ false
