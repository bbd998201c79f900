-- A reader may skip this file: the number of a fault, as document 01 gives it. Assumes nothing.
use Rattle.std.specs.Prelude.{ℕ, Result, Ok, Err}
use Rattle.records.specs.declared.metadata.Fault.{Fault}
use Rattle.records.specs.declared.metadata.Fault.TheVariants.{NotLaidOut, OutOfRange}

-- 5, 6, or 0 for none
abbrev pub number_of : {A : Type 0} → Result A Fault → ℕ
number_of (Ok x) = 0
number_of (Err NotLaidOut) = 5
number_of (Err OutOfRange) = 6
