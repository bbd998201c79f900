pub mod Range
pub mod Channels
pub mod Search
pub mod Matches
pub mod Theorems
