-- R-12: what waits between calls. "reset empties those, and a refused frame adds none": accepted pushes change it, a reset and an accepted making call empty it, and nothing else
-- touches it. Assumes nothing.
use Rattle.std.specs.Prelude.{◌≡◌, Bool, true, false, not, ◌||◌, T}
use Rattle.rules.specs.Leaves.{Leaves}
use Rattle.rules.specs.Samples.{State}
use Rattle.rules.specs.Calls.{Call, push, flush, reset, make, make_with, mark, find, is_refused, step}

abbrev pub may_settle : Call → Bool
may_settle (push a) = true
may_settle (flush out stride) = false
may_settle reset = true
may_settle (make n) = true
may_settle (make_with n t) = true
may_settle (mark w d) = false
may_settle (find m) = false

abbrev pub WaitsStay : Leaves → Type 0
WaitsStay L = (r : State L) (c : Call) → T (is_refused (step L r c).answer || not (may_settle c)) → (step L r c).next.waits ≡ r.waits
