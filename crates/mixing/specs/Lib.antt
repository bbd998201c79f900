pub mod FrameSamples
pub mod Sums
pub mod Mixing
pub mod Part
pub mod SampleBits
