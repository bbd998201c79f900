-- Every vector that the renderer works out has f32 components, where those that the object and its block hold do. Assumes nothing.
use mathlib.Core.Bool.{Bool, true, false, ◌&&◌, cond}
use lib.Dec.{T}
use lib.Ieee.{Float, binary32, fits, of_bits, lt, eq, add, sub, mul, div}
use lib.Ieee.Fits.{cond-fits, add-fits, sub-fits, mul-fits}
use Rattle.std.specs.Prelude.{Option, Some, None}
use Rattle.ieee.specs.Small.{clamped}
use Rattle.roots.specs.declared.Depth.{Depth}
use Rattle.vectors.specs.declared.Vec3.{Vec3}
use Rattle.vectors.specs.declared.Anchor.{Anchor}
use Rattle.vectors.specs.declared.Anchor.TheVariants.{Room, Screen, Speaker}
use Rattle.vectors.specs.declared.BlockPosition.{BlockPosition}
use Rattle.vectors.specs.Vectors.{0·0f, 1·0f, zero_vec3, largest_size, pairwise, vec_mul_scalar, map_to_cube, lerp, lerp_vec3}
use Rattle.vectors.specs.Anchors.{used_distance, room_anchored, screen_anchored}
use Rattle.vectors.specs.Target.{summed, differential_position, cubical, anchored, next_position, movable, moved, unmoved, placed}
use Rattle.vectors.specs.Fit.{VecFits, BlockFits, PlacedFits}

-- an operation on f32 gives f32, whatever it is handed
pairwise_fits : (o : Float → Float → Float) → ((a b : Float) → T (fits binary32 (o a b))) → (a b : Vec3) → VecFits (pairwise o a b)
pairwise_fits o h a b = record { x_fits = h _ _; y_fits = h _ _; z_fits = h _ _ }

chosen_fits : (t : Bool) (a b : Vec3) → VecFits a → VecFits b → VecFits (cond t a b)
chosen_fits true a b h k = h
chosen_fits false a b h k = k

pub lerp_fits : (a b : Vec3) (t : Float) → VecFits (lerp_vec3 a b t)
lerp_fits a b t = pairwise_fits (lerp t) (λ x y. add-fits binary32 x (mul binary32 (sub binary32 y x) t)) a b

zero_fits : VecFits zero_vec3
unfolding of_bits fits
zero_fits = record { x_fits = tt; y_fits = tt; z_fits = tt }

pub map_to_cube_fits : (v : Vec3) → VecFits (map_to_cube v)
unfolding map_to_cube
map_to_cube_fits v =
    chosen_fits (eq (largest_size v) 0·0f) zero_vec3 (vec_mul_scalar v (div binary32 1·0f (largest_size v))) zero_fits
    (record { x_fits = mul-fits binary32 _ _; y_fits = mul-fits binary32 _ _; z_fits = mul-fits binary32 _ _ })

pub room_fits : (p : Vec3) (d : Option Float) → VecFits p → VecFits (room_anchored p d)
unfolding room_anchored
room_fits p None h = h
room_fits p (Some d) h = pairwise_fits (add binary32) (add-fits binary32) _ _

pub screen_fits : (p : Vec3) (s : Float) (d : Depth) → VecFits (screen_anchored p s d)
unfolding screen_anchored
screen_fits p s d = pairwise_fits (add binary32) (add-fits binary32) _ _

summed_fits : (a b : Float) → T (fits binary32 (summed a b))
unfolding clamped of_bits fits
summed_fits a b =
    let s = add binary32 a b in
    cond-fits binary32 (lt s 0·0f) 0·0f (cond (lt 1·0f s) 1·0f s) tt (cond-fits binary32 (lt 1·0f s) 1·0f s tt (add-fits binary32 a b))

cubical_fits : (p : Vec3) → VecFits p → VecFits (cubical p)
cubical_fits p h = record { x_fits = sub-fits binary32 _ _; y_fits = h.z_fits; z_fits = add-fits binary32 _ _ }

anchored_fits : (a : Anchor) (b : BlockPosition) (p : Vec3) → VecFits p → VecFits (anchored a b p)
anchored_fits Room b p h = room_fits p (used_distance b.distance) h
anchored_fits Screen b p h = screen_fits p b.screen b.depth
anchored_fits Speaker b p h = h

next_position_fits : (b : BlockPosition) → BlockFits b → VecFits (next_position b)
next_position_fits b h =
    chosen_fits b.differential (differential_position b.last b.position) b.position (pairwise_fits summed summed_fits _ _) h.position_fits

moved_fits : (b : BlockPosition) → BlockFits b → PlacedFits (moved b)
unfolding moved
moved_fits b h =
    let p = next_position_fits b h in
    record {
      target_fits = cubical_fits _ (anchored_fits b.anchor b _ p);
      position_fits = p;
      last_fits = chosen_fits b.differential b.last b.position h.last_fits h.position_fits;
    }

-- what a block leaves fits, and so does its target
pub placed_fits : (b : BlockPosition) (here : Vec3) → BlockFits b → VecFits here → PlacedFits (placed b here)
unfolding placed
placed_fits b here h k = go (b.valid && movable b.anchor)
  where
    go : (t : Bool) → PlacedFits (cond t (moved b) (unmoved b here))
    go true = moved_fits b h
    go false = record { target_fits = k; position_fits = h.position_fits; last_fits = h.last_fits }
