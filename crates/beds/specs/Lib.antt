pub mod Routes
pub mod Positions
pub mod Matching
pub mod BedTerms
