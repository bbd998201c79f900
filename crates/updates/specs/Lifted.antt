-- R-1. "Some programmes turn a bed channel into an object between two updates while the total stays." Assumes nothing.
use Rattle.std.specs.Prelude.{ℕ, ◌+◌, ◌-◌, ◌≤◌, ◌<◌, ◌≡◌, false, pos, length, get_or, replicate}
use Rattle.vectors.specs.Vectors.{zero_vec3}
use Rattle.vectors.specs.Head.{has}
use Rattle.timed.specs.InfoSizes.{most_elements, most_objects, most_blocks, all_bytes, position_byte, last_byte, info_number, info_at}
use Rattle.timed.specs.Infos.{vec_at}
use Rattle.timed.specs.Rules.{remaining_of, no_block}
use Rattle.timed.specs.State.{Timed, element_of}
use Rattle.updates.specs.Said.{Update}
use Rattle.updates.specs.Applied.{new_track}

-- What the limits of document 01 leave of a state and of an update: "up to 32 objects in all", "2 elements, 8 blocks each". Every block in range and every update that
-- refusal 5 lets pass is so.
pub record WithinCounts (u : Update) (t : Timed) : Type 0 where
  pub states : length t.state.states ≡ most_elements
  pub schedules : (e : ℕ) → e < most_elements → length (element_of t.state e).schedule ≡ most_blocks
  pub infos : length t.infos ≡ all_bytes
  pub elements : u.elements ≤ most_elements
  pub objects : u.objects ≤ most_objects
  pub blocks : (e : ℕ) → e < u.elements → (u.element e).blocks ≤ most_blocks

-- Element e of an update that has been applied "starts afresh ..: flags clear, targets at the origin, no ramp remaining". `new_track` is a flag that is clear and a target at
-- the origin; there are as many flags as the update has dynamic objects, and no block counts as applied. Of the positions that are stored from update to update none is left:
-- where a record brings no position it is the origin, and so is the last absolute one.
pub record Afresh (u : Update) (e : ℕ) (t : Timed) : Type 0 where
  pub flags : (element_of t.state e).flags ≡ u.objects - u.isf
  pub tracks : (element_of t.state e).tracks ≡ replicate 16 new_track
  pub remaining : remaining_of (element_of t.state e).remaining ≡ pos 0
  pub unapplied : (b : ℕ) → b < (u.element e).blocks → (get_or (element_of t.state e).schedule b no_block).used ≡ false
  pub position : (o b : ℕ) → o < u.objects → b < (u.element e).blocks
      → has ((u.element e).info o b).head 8 ≡ false → vec_at t.infos (info_at (info_number e o b) + position_byte) ≡ zero_vec3
  pub last : (o b : ℕ) → o < u.objects → b < (u.element e).blocks → vec_at t.infos (info_at (info_number e o b) + last_byte) ≡ zero_vec3
