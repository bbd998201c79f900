-- A reader may skip this file: what is asked of the metadata of an update that is applied: its records stand in the list, its counts and blocks are within their limits. Records
-- that refusals 5 and 6 let pass are so. Assumes nothing.
use Rattle.std.specs.Prelude.{ℕ, ◌+◌, ◌-◌, ◌*◌, ◌≤◌, ◌<◌, List, length}
use Rattle.fields.specs.Update.{objects, bed_or_isf_of, beds, elements}
use Rattle.fields.specs.Block.{blocks}
use Rattle.fields.specs.Raised.{raised}
use Rattle.records.specs.LayoutAnswers.{sent_place}
use Rattle.records.specs.declared.sent.Layout.{Layout}
use Rattle.records.specs.Laid.{block_at, element_end, element_at}

-- the blocks of the element at record p
pub record WholeBlocks (m : List ℕ) (p : ℕ) : Type 0 where
  pub few : blocks m p ≤ 8
  pub within : 40 * (p + 1 + blocks m p) ≤ length m
  pub offsets : (b : ℕ) → b < blocks m p → raised m (40 * block_at p b + 8) ≤ 2097152
  pub ramps : (b : ℕ) → b < blocks m p → raised m (40 * block_at p b + 16) ≤ 2097152

-- the element at record p, of an update of n objects
pub record WholeElement (m : List ℕ) (n p : ℕ) : Type 0 where
  pub given : WholeBlocks m p
  pub within : 40 * element_end m n p ≤ length m

-- the update at record u
pub record WholeUpdate (m : List ℕ) (u : ℕ) : Type 0 where
  pub within : 40 * u + 40 ≤ length m
  pub few_objects : objects m u ≤ 32
  pub few_isf : bed_or_isf_of m u ≤ 255
  pub few_dynamic : objects m u - bed_or_isf_of m u ≤ 16
  pub few_beds : beds m u ≤ 18
  pub no_more_beds : beds m u ≤ objects m u
  pub few_elements : elements m u ≤ 2
  pub each : (e : ℕ) → e < elements m u → WholeElement m (objects m u) (element_at m u e)

-- the updates of a list, where its layout has them
pub record WholeUpdates (m : List ℕ) (l : Layout) : Type 0 where
  pub few : l.count ≤ 16
  pub all : (i : ℕ) → i < l.count → WholeUpdate m (sent_place l i)
