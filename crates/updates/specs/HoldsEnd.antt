-- R-11: "A change in the number of objects .. end[s] all holds, also those not yet in effect." Objects here are the dynamic ones. Assumes nothing.
use Rattle.std.specs.Prelude.{ℕ, ◌-◌, ◌≡◌}
use Rattle.timed.specs.HoldLaws.{object_numbered}
use Rattle.timed.specs.Plain.{Unheld}
use Rattle.timed.specs.State.{Timed}
use Rattle.updates.specs.Said.{Update}
use Rattle.updates.specs.Applied.{applied}

-- another number of them: no hold is left of any
abbrev pub HoldsEnd : Type 0
HoldsEnd = (n d : ℕ) (u : Update) (t : Timed) → (t.state.objects - t.state.isf ≡ u.objects - u.isf → ⊥) → Unheld (object_numbered d (applied n u t).state)

-- the same number: each object stays where it is, with its marks
abbrev pub HoldsStay : Type 0
HoldsStay = (n : ℕ) (u : Update) (t : Timed) → t.state.objects - t.state.isf ≡ u.objects - u.isf → (applied n u t).state.sources ≡ t.state.sources
