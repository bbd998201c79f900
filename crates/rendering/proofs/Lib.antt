pub mod Given
pub mod RowsPeak
pub mod MixedMoments
pub mod Changed
pub mod Begins
pub mod Theorems
