-- A reader may skip this file, which the proofs cite: vectors whose components are values of f32. Assumes nothing.
use Rattle.std.specs.Prelude.{T}
use Rattle.std.specs.Float.{binary32}
use Rattle.std.specs.Float.Ieee.{fits}
use Rattle.vectors.specs.declared.Vec3.{Vec3}
use Rattle.vectors.specs.declared.BlockPosition.{BlockPosition}
use Rattle.vectors.specs.declared.Placed.{Placed}

pub record VecFits (v : Vec3) : Type 0 where
  pub x_fits : T (fits binary32 v.x)
  pub y_fits : T (fits binary32 v.y)
  pub z_fits : T (fits binary32 v.z)

pub record BlockFits (b : BlockPosition) : Type 0 where
  pub position_fits : VecFits b.position
  pub last_fits : VecFits b.last

pub record PlacedFits (p : Placed) : Type 0 where
  pub target_fits : VecFits p.target
  pub position_fits : VecFits p.position
  pub last_fits : VecFits p.last
