pub mod Answers
pub mod Ahead
pub mod Places
pub mod Conversions
pub mod Conversions24
