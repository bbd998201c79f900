-- What a call of either direction answers and leaves. Document 02, R-10: "N is at most 1,536, and zero is allowed. Refused: 22 for N above 1,536, 23 for a source not of the exact
-- length or a destination too short, in that order; the destination is then untouched." Assumes nothing.
use Rattle.std.specs.Prelude.{ℕ, ◌*◌, List, ◌++◌, drop, eqb, leb, ltb, ◌&&◌, cond, Result, Ok, Err}
use Rattle.planes.specs.declared.Fault.{Fault}
use Rattle.planes.specs.declared.Fault.TheVariants.{TooMany, Lengths}

abbrev pub number_of_fault : Fault → ℕ
number_of_fault TooMany = 22
number_of_fault Lengths = 23

-- the samples converted, or the first fault, of n samples on each channel, a source and a destination of so many bytes
abbrev pub judged : ℕ → ℕ → ℕ → Result ℕ Fault
judged n source dest = cond (ltb 1536 n) (Err TooMany) (cond (eqb source (48 * n) && leb (48 * n) dest) (Ok n) (Err Lengths))

-- the destination: what was converted, and the bytes beyond that were there; or what was there
abbrev pub written_over : Result ℕ Fault → List ℕ → List ℕ → List ℕ
written_over (Ok n) converted dest = converted ++ drop (48 * n) dest
written_over (Err f) converted dest = dest
