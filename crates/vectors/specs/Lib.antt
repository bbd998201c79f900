pub mod Vectors
pub mod Anchors
pub mod Target
pub mod Fit
pub mod Head
