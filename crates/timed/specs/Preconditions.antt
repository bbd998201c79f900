-- A reader may skip this file: what the code asks of its arguments, so that nothing wraps and every info that is reached is one. These follow from document 01's ranges of a
-- state block, which stand in the specs of `store`. Assumes nothing.
use Rattle.std.specs.Prelude.{ℕ, ◌+◌, ◌-◌, ◌*◌, ◌≤◌, ◌<◌, List, get_or}
use Rattle.timed.specs.InfoSizes.{most_elements, most_objects, most_blocks}
use Rattle.timed.specs.Rules.{middle, no_block, element_of}
use Rattle.timed.specs.declared.state.BlockState.{BlockState}
use Rattle.timed.specs.declared.state.ElementRendererState.{ElementRendererState}
use Rattle.timed.specs.declared.state.MetadataRendererState.{MetadataRendererState}

-- "an offset or ramp outside ±1,048,576" is refused; "a remaining ramp from -2^21 - 64 × the stream's position to 2^20"
pub record Ramps (position : ℕ) (schedule : List BlockState) (remaining : ℕ) : Type 0 where
  pub offsets : (b : ℕ) → b < most_blocks → (get_or schedule b no_block).offset ≤ 2097152
  pub ramps : (b : ℕ) → b < most_blocks → (get_or schedule b no_block).ramp ≤ 2097152
  pub most : remaining ≤ 140737489403904
  pub least : middle ≤ remaining + (2097152 + 64 * position)

-- an element's ranges, at a stream position
pub record InRange (position : ℕ) (e : ElementRendererState) : Type 0 where
  pub blocks : e.blocks ≤ most_blocks
  pub ramps : Ramps position e.schedule e.remaining

-- what a state holds at a stream position, as document 01's ranges have it
pub record Within (position : ℕ) (s : MetadataRendererState) : Type 0 where
  pub payload : s.payload.0 ≤ 1099511627776
  pub objects : s.objects ≤ most_objects
  pub isf : s.isf ≤ 255
  pub dynamic : s.objects - s.isf ≤ 16
  pub beds : s.beds ≤ 18
  pub channels : s.beds ≤ s.objects
  pub elements : s.elements ≤ most_elements
  pub states : (i : ℕ) → i < most_elements → InRange position (element_of s i)
