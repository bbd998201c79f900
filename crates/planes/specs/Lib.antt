pub mod Planes
pub mod Conversion
