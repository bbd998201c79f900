-- A reader may skip this file: what refusals 10 to 14 look at, as the code has it. The updates in the order sent are those of the instance (theorem/specs/Instance), read at
-- their records; the present shape is a value, whose codes past the number of beds count for nothing. Assumes nothing.
use Rattle.std.specs.Prelude.{ℕ, ◌-◌, ◌≡◌, true, List, get_or}
use Rattle.fields.specs.Update.{objects, bed_or_isf_of, beds, code}
use Rattle.records.specs.Runs.{each}
use Rattle.records.specs.declared.metadata.Metadata.{Metadata}
use Rattle.timed.specs.declared.state.MetadataRendererState.{MetadataRendererState}
use Rattle.rules.specs.Leaves.{Shape}
use Rattle.rules.specs.Refusals.{Announced}
use Rattle.rules.specs.Calls.{announced}
use Rattle.theorem.specs.Instance as theorem
use Rattle.refusals.specs.declared.present.Present.{Present}

-- the updates in the order sent, each with its offset in the frame and its shape
abbrev pub told_by : Metadata → List Announced
told_by m = announced theorem.hall (theorem.sent_from m)

-- the shape of the update at record u
abbrev pub said_shape : List ℕ → ℕ → Shape
said_shape m u = record { started = true; objects = objects m u - bed_or_isf_of m u; beds = each (code m u) (beds m u) }

abbrev pub present_shape : Present → Shape
present_shape p = record { started = p.started; objects = p.objects; beds = each (λ k. get_or p.codes k 0) p.beds }

-- the state's
pub record IsPresent (s : MetadataRendererState) (p : Present) : Type 0 where
  pub started : p.started ≡ s.initialized
  pub objects : p.objects ≡ s.objects - s.isf
  pub beds : p.beds ≡ s.beds
  pub codes : p.codes ≡ s.codes
