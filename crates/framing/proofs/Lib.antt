pub mod Limits
pub mod Unpacking
pub mod Theorems
