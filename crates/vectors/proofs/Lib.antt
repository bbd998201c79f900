pub mod Fitting
pub mod EdgeValues
pub mod Heads
pub mod Theorems
