-- The target of a block for an object: the position part of `ObjectInfoBlockState::update_source_state`, on plain values. Assumes nothing.
use Rattle.std.specs.Prelude.{Bool, true, false, ◌&&◌, cond, Float}
use Rattle.std.specs.Float.{binary32}
use Rattle.std.specs.Float.Ieee.{of_bits, neg, add, sub, mul}
use Rattle.ieee.specs.Small.{clamped}
use Rattle.vectors.specs.declared.Vec3.{Vec3}
use Rattle.vectors.specs.declared.Anchor.{Anchor}
use Rattle.vectors.specs.declared.Anchor.TheVariants.{Room, Screen, Speaker}
use Rattle.vectors.specs.declared.BlockPosition.{BlockPosition}
use Rattle.vectors.specs.declared.Placed.{Placed}
use Rattle.vectors.specs.Vectors.{0·0f, 1·0f, vec3, pairwise}
use Rattle.vectors.specs.Anchors.{used_distance, room_anchored, screen_anchored}

abbrev pub 2·0 : Float
2·0 = of_bits binary32 0x40000000

abbrev pub -2·0 : Float
-2·0 = neg 2·0

-- The last absolute coordinate and a difference, brought into 0 to 1. Document 01, item 2: of a NaN, "a clamp keeps it"; -0 stays too.
abbrev pub summed : Float → Float → Float
summed last d = clamped (add binary32 last d) 0·0f 1·0f

abbrev pub differential_position : Vec3 → Vec3 → Vec3
differential_position = pairwise summed

-- from the room's coordinates (0 to 1; y from front to back, z upwards) to those of the cube (-1 to 1; y upwards, z to the front)
abbrev pub cubical : Vec3 → Vec3
cubical p = vec3 (sub binary32 (mul binary32 p.x 2·0) 1·0f) p.z (add binary32 (mul binary32 p.y -2·0) 1·0f)

abbrev pub anchored : Anchor → BlockPosition → Vec3 → Vec3
anchored Room b p = room_anchored p (used_distance b.distance)
anchored Screen b p = screen_anchored p b.screen b.depth
anchored Speaker b p = p

-- the position that the block holds once it is applied: the sum where it is differential
abbrev pub next_position : BlockPosition → Vec3
next_position b = cond b.differential (differential_position b.last b.position) b.position

-- the last absolute position, which a differential block leaves
abbrev pub next_last : BlockPosition → Vec3
next_last b = cond b.differential b.last b.position

unfoldable pub moved : BlockPosition → Placed
moved b =
    record { target = cubical (anchored b.anchor b (next_position b)); position = next_position b; last = next_last b }

abbrev pub unmoved : BlockPosition → Vec3 → Placed
unmoved b here = record { target = here; position = b.position; last = b.last }

abbrev pub movable : Anchor → Bool
movable Room = true
movable Screen = true
movable Speaker = false

-- Where the position is valid and the anchor is not speaker, the block moves its object; else the target is the object's own place.
unfoldable pub placed : BlockPosition → Vec3 → Placed
placed b here = cond (b.valid && movable b.anchor) (moved b) (unmoved b here)
