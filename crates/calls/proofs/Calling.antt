-- An entry's answer in the words of the rules: it has the same text. Assumes nothing.
use Prim.Native.Nat.{ℕ}
use mathlib.Core.Path.{◌≡◌, refl}
use mathlib.Core.List.{List}
use Rattle.rules.specs.Calls as rules
use Rattle.rules.specs.Calls.{refused, rendered, nothing, cleared, marked, place}
use Rattle.hall.specs.Answers.{code_of}
use Rattle.calls.specs.AnswerText.{text_of}
use Rattle.calls.specs.CallResults.{text_of_code}

pub code_text : (a : rules.Answer) (out : List ℕ) → text_of_code (code_of a) out ≡ text_of a out
unfolding text_of_code
code_text (rendered given m) out = refl
code_text (refused n a b) out = refl
code_text nothing out = refl
code_text cleared out = refl
code_text (marked c) out = refl
code_text (place p) out = refl
