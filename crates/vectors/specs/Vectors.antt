-- Vectors, component by component: each definition is the function of the source of that name, every operation in f32 and in the source's order. Assumes nothing.
use Rattle.std.specs.Prelude.{cond, Float}
use Rattle.std.specs.Float.{binary32}
use Rattle.std.specs.Float.Ieee.{add, sub, mul, div, eq}
use Rattle.ieee.specs.Small.{absolute, larger}
use Rattle.roots.specs.Root.{root}
use Rattle.vectors.specs.declared.Vec3.{Vec3}
pub use Rattle.ieee.specs.Numbers.{0·0f, 1·0f}

abbrev pub vec3 : Float → Float → Float → Vec3
vec3 x y z = record { x = x; y = y; z = z }

-- `ZERO_VEC3`
abbrev pub zero_vec3 : Vec3
zero_vec3 = vec3 0·0f 0·0f 0·0f

-- o between the components of a and b
abbrev pub pairwise : (Float → Float → Float) → Vec3 → Vec3 → Vec3
pairwise o a b = vec3 (o a.x b.x) (o a.y b.y) (o a.z b.z)

abbrev pub vec_add : Vec3 → Vec3 → Vec3
vec_add = pairwise (add binary32)

abbrev pub vec_sub : Vec3 → Vec3 → Vec3
vec_sub = pairwise (sub binary32)

abbrev pub vec_mul_components : Vec3 → Vec3 → Vec3
vec_mul_components = pairwise (mul binary32)

abbrev pub vec_mul_scalar : Vec3 → Float → Vec3
vec_mul_scalar v k = vec3 (mul binary32 v.x k) (mul binary32 v.y k) (mul binary32 v.z k)

abbrev pub vec_length : Vec3 → Float
vec_length v = root (add binary32 (add binary32 (mul binary32 v.x v.x) (mul binary32 v.y v.y)) (mul binary32 v.z v.z))

-- from + (to - from) * t, which at t = 1 need not be `to`
abbrev pub lerp : Float → Float → Float → Float
lerp t a b = add binary32 a (mul binary32 (sub binary32 b a) t)

abbrev pub lerp_vec3 : Vec3 → Vec3 → Float → Vec3
lerp_vec3 a b t = pairwise (lerp t) a b

-- The largest size of a component. Document 01, item 2: "f32 max passes over a NaN".
abbrev pub largest_size : Vec3 → Float
largest_size v = larger (larger (absolute v.x) (absolute v.y)) (absolute v.z)

-- onto the surface of the cube; the origin where the largest size is 0
unfoldable pub map_to_cube : Vec3 → Vec3
map_to_cube v = cond (eq (largest_size v) 0·0f) zero_vec3 (vec_mul_scalar v (div binary32 1·0f (largest_size v)))
