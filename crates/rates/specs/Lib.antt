pub mod Rates
pub mod Series
pub mod Suffice
