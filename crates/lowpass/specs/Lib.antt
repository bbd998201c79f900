pub mod Lowpass
pub mod Bound
pub mod Forgets
