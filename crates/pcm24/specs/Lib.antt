pub mod Codes
pub mod Interleaved
pub mod Refused
pub mod WrittenRead
