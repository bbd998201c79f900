-- The format of a vector: three floats. Document 01: the block's floats are "of any bits". Assumes nothing.
use Rattle.vectors.specs.declared.Vec3.{Vec3}
use Rattle.formats.specs.NumberWords.{Single}
use Rattle.formats.specs.Format.{Format, float, ◌⊗◌, struct, ranged}

pub record Singles (v : Vec3) : Type 0 where
  pub x : Single v.x
  pub y : Single v.y
  pub z : Single v.z

abbrev pub vec_format : Format Vec3
vec_format = ranged Singles (struct (λ v. (v.x, (v.y, v.z))) (λ (x, (y, z)). record { x = x; y = y; z = z }) (float ⊗ float ⊗ float))
