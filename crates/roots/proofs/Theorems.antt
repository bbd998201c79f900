-- What others may cite of this crate, a line each. Assumes nothing.

-- document 01, item 1: of a finite f32 that is not negative, no f32 is nearer to the square root, or to the power 1/2 or 1/4
pub use Rattle.roots.proofs.NearestRoots.{root_meant, half_meant, fourth_meant}
-- and of a positive one no other f32 is as near, so that there is no tie
pub use Rattle.roots.proofs.NearestRoots.{root_only, half_only, fourth_only}
-- the square root in the terms of crate `ieee`
pub use Rattle.roots.proofs.NearestRoots.{root_nearest}
