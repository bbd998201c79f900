pub mod FewerSteps
pub mod TestInParts
pub mod Every
pub mod Theorems
