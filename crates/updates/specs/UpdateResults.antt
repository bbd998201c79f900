-- A reader may skip this file: that what a function returns and the infos that it leaves are those of a definition. Assumes nothing.
use Rattle.std.specs.Prelude.{ℕ, ◌-◌, ◌≡◌, Bool, not, List}
use Rattle.timed.specs.declared.state.ElementRendererState.{ElementRendererState}
use Rattle.updates.specs.declared.element.Counts.{Counts}
use Rattle.updates.specs.Said.{Element}
use Rattle.updates.specs.Stored.{objects_stored}
use Rattle.updates.specs.Applied.{Work, is_kept, element_next}

-- what an element at `s` becomes, and the infos from `first` on
pub record IsElement (same : Bool) (c : Counts) (x : Element) (first : ℕ) (s : ElementRendererState) (is : List ℕ) (r : ElementRendererState) (out : List ℕ) : Type 0 where
  pub element : r ≡ element_next (is_kept same s.blocks x.blocks) (c.objects - c.isf) x s
  pub infos : out ≡ objects_stored (not (is_kept same s.blocks x.blocks)) c.isf x first c.objects is

pub record IsWork (w : Work) (es : List ElementRendererState) (is : List ℕ) : Type 0 where
  pub states : es ≡ w.states
  pub infos : is ≡ w.infos
