pub mod Mixed
pub mod Samples
pub mod Parts
pub mod Sums
pub mod Passes
pub mod RefusalEight
pub mod Bounded
pub mod Theorems
