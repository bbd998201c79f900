-- What a call on planes answers, as C reads it. Document 02, R-10: "Refused: 22 for N above 1,536, 23 for a source not of the exact length or a destination too short". Assumes
-- nothing.
use Rattle.std.specs.Prelude.{ℕ, Result, Ok, Err}
use Rattle.limiter.specs.Limiter.{0·0, 1·0}
use Rattle.planes.specs.Conversion.{number_of_fault}
use Rattle.planes.specs.declared.Fault.{Fault}
use Rattle.hall.specs.Answers.{bare}
use Rattle.hall.specs.declared.answer.Answer.{Answer}

-- kind 3 with the samples converted on each channel
abbrev pub converted_as : Result ℕ Fault → Answer
converted_as (Ok n) = record { kind = 3; number = 0; first = 0; second = 0; ready = n; peak = 0·0; gain = 1·0 }
converted_as (Err f) = bare 1 (number_of_fault f) 0 0
