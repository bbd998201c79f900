pub mod Limiter
pub mod Level
pub mod Meters
pub mod Range
pub mod BlockInRange
pub mod Return
pub mod ChannelPlaces
