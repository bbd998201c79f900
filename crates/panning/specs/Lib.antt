pub mod Terms
pub mod Coefficients
pub mod Speakers
pub mod Corners714
pub mod Setup
pub mod Fault
pub mod Hall
pub mod Facts
pub mod Shares
pub mod Sounding
-- what the clauses cite of the crate below
pub use Rattle.corners.specs.Choice
pub use Rattle.corners.specs.Table
pub use Rattle.corners.specs.Axes
pub use Rattle.corners.specs.Sorted
