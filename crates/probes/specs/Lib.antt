pub mod Taken
pub mod Timed
pub mod Codes
pub mod Beds
