-- Document 01's `hallrender`: what is printed of an answer. Assumes nothing.
use Rattle.std.specs.Prelude.{ℕ, List, length}
use Rattle.rules.specs.Calls.{Answer, refused, rendered, nothing, cleared, marked, place}
use Rattle.listing.specs.Text.{ready_text, refused_text, none_text, reset_text}

-- "It prints `ready N` and N lines .., `none`, `reset`, or `refused K A B`": of an answer of the rules, where the call left `out`. No record holds an object or searches.
abbrev pub text_of : Answer → List ℕ → List ℕ
text_of (rendered given m) out = ready_text (length (given 0)) out
text_of (refused n a b) out = refused_text n a b
text_of nothing out = none_text
text_of cleared out = reset_text
text_of (marked c) out = reset_text
text_of (place p) out = reset_text
