-- Where an anchor puts a position: `room_anchored_position` and `screen_anchored_position`, every operation in f32 and in the source's order. Assumes nothing.
use Rattle.std.specs.Prelude.{cond, Float, Option, Some, None}
use Rattle.std.specs.Float.{binary32}
use Rattle.std.specs.Float.Ieee.{of_bits, add, sub, mul, div}
use Rattle.ieee.specs.Small.{infinite}
use Rattle.roots.specs.Root.{depth_power}
use Rattle.roots.specs.declared.Depth.{Depth}
use Rattle.vectors.specs.declared.Vec3.{Vec3}
use Rattle.vectors.specs.Vectors.{0·0f, 1·0f, vec3, vec_add, vec_sub, vec_mul_scalar, vec_mul_components, vec_length, map_to_cube}
-- 0·9f is `SCREEN_SIZE_X`
pub use Rattle.ieee.specs.Numbers.{0·9f}

abbrev pub 0·5 : Float
0·5 = of_bits binary32 0x3f000000

-- `SCREEN_SIZE_Z`
abbrev pub 0·486 : Float
0·486 = of_bits binary32 0x3ef8d4fe

-- `INFINITE_DISTANCE_FALLBACK`
abbrev pub 100·0 : Float
100·0 = of_bits binary32 0x42c80000

-- ---- the room

-- Document 01, item 2: "An infinite distance of either sign becomes 100."
abbrev pub finite_distance : Float → Float
finite_distance d = cond (infinite d) 100·0 d

abbrev pub used_distance : Option Float → Option Float
used_distance None = None
used_distance (Some d) = Some (finite_distance d)

-- `ROOM_CENTER`
abbrev pub room_center : Vec3
room_center = vec3 0·5 0·5 0·0f

-- k of the way from the room's centre to c
abbrev pub from_center : Float → Vec3 → Vec3
from_center k c = vec_add (vec_mul_scalar c k) (vec_mul_scalar room_center (sub binary32 1·0f k))

-- where a distance is given, the position on the cube, drawn to the centre by its own distance over the given one
unfoldable pub room_anchored : Vec3 → Option Float → Vec3
room_anchored p None = p
room_anchored p (Some d) = from_center (div binary32 (vec_length (map_to_cube p)) d) (map_to_cube p)

-- ---- the screen

-- the position's place on the screen
abbrev pub reference : Vec3 → Vec3
reference p =
    vec3 (add binary32 (mul binary32 (sub binary32 p.x 0·5) 0·9f) 0·5) p.y
    (mul binary32 (add binary32 p.z 1·0f) 0·486)

-- a factor for x and z, with 1 for y
abbrev pub multiplier : Float → Vec3
multiplier k = vec3 k 1·0f k

-- d * ((s * p + r) - s * r) + (r - d * r), for the multipliers d and s
abbrev pub on_screen : Vec3 → Vec3 → Vec3 → Vec3 → Vec3
on_screen d s p r =
    vec_add (vec_mul_components d (vec_sub (vec_add (vec_mul_components s p) r) (vec_mul_components s r)))
    (vec_sub r (vec_mul_components d r))

-- Document 01, item 2: "Depth is y to the power 0.25, 0.5, 1 or 2, nearest f32."
unfoldable pub screen_anchored : Vec3 → Float → Depth → Vec3
screen_anchored p s depth = on_screen (multiplier (depth_power depth p.y)) (multiplier s) p (reference p)
