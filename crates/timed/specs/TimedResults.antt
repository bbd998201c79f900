-- A reader may skip this file: that what a function returns and the infos that it leaves are those of a definition. Assumes nothing.
use Rattle.std.specs.Prelude.{ℕ, ◌≡◌, List}
use Rattle.timed.specs.Objects as objects
use Rattle.timed.specs.Objects.{ObjectAfter}
use Rattle.timed.specs.Slot.{SlotWork, Sourced}
use Rattle.timed.specs.State.{Timed}
use Rattle.timed.specs.declared.state.MetadataRendererState.{MetadataRendererState}
use Rattle.timed.specs.declared.objects.Moved.{Moved}
use Rattle.timed.specs.declared.objects.Moving.{Moving}
use Rattle.timed.specs.declared.slot.Slot.{Slot}
use Rattle.timed.specs.declared.slot.Updated.{Updated}

pub record IsMoved (a : ObjectAfter) (m : Moved) (is : List ℕ) : Type 0 where
  pub object : m ≡ a.moved
  pub infos : is ≡ a.infos

pub record IsMovedAll (w : objects.ObjectsWork) (m : Moving) (is : List ℕ) : Type 0 where
  pub objects : m ≡ w.moving
  pub infos : is ≡ w.infos

pub record IsSlotWork (w : SlotWork) (s : Slot) (is : List ℕ) : Type 0 where
  pub slot : s ≡ w.slot
  pub infos : is ≡ w.infos

pub record IsUpdated (a : Sourced) (u : Updated) (is : List ℕ) : Type 0 where
  pub updated : u ≡ a.updated
  pub infos : is ≡ a.infos

pub record IsTimed (t : Timed) (s : MetadataRendererState) (is : List ℕ) : Type 0 where
  pub state : s ≡ t.state
  pub infos : is ≡ t.infos
