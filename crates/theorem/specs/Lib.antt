pub mod Instance
pub mod Halls
pub mod Appends
pub mod AbsentKept
pub mod Marked
pub mod GainPlace
pub mod Unheld
