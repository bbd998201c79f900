-- R-11: "From a hold to the next reset these rules take the Rust's place." So from a new renderer, or one that a reset left, until a hold is accepted, the rules are those of document
-- 01, item 5, without holds (timed/specs/Plain). Assumes nothing.
use Rattle.std.specs.Prelude.{List}
use Rattle.timed.specs.Plain.{plain_slot, Unmarked}
use Rattle.rules.specs.Leaves.{Leaves}
use Rattle.rules.specs.Samples.{State}
use Rattle.rules.specs.Calls.{Call, run}
use Rattle.rules.specs.OtherSlots.{with_slot, NoHold, SameResults}
use Rattle.theorem.specs.Instance.{hall}

abbrev pub plain_hall : Leaves
plain_hall = with_slot hall plain_slot

-- calls of which none is an accepted hold, on a renderer where no object has a mark
abbrev pub UnheldSame : Type 0
UnheldSame = (r : State hall) (cs : List Call) → Unmarked r.meta.state.sources → NoHold hall r cs → SameResults hall plain_slot (run hall r cs) (run plain_hall r cs)
