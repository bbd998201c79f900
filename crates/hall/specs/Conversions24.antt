-- What a call on 24-bit samples answers, as C reads it. Document 02, R-9: "a bad stride or a short slice is 1, a count above the stride is 2, both first. .. Refused: 19 .. 20 .. 21".
-- Assumes nothing.
use Rattle.std.specs.Prelude.{ℕ, Result, Ok, Err}
use Rattle.limiter.specs.Limiter.{0·0, 1·0}
use Rattle.pcm24.specs.Refused.{number_of_fault_24}
use Rattle.pcm24.specs.declared.Fault.{Fault}
use Rattle.hall.specs.Answers.{bare}
use Rattle.hall.specs.declared.answer.Answer.{Answer}

-- kind 3 with the samples converted on each channel
abbrev pub converted_24_as : Result ℕ Fault → Answer
converted_24_as (Ok n) = record { kind = 3; number = 0; first = 0; second = 0; ready = n; peak = 0·0; gain = 1·0 }
converted_24_as (Err f) = bare 1 (number_of_fault_24 f) 0 0
