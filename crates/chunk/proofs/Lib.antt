pub mod Counts
pub mod Laying
pub mod Theorems
