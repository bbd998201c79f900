pub mod First
pub mod Cleared
pub mod LowestFirst
pub mod Sent
pub mod Walks
pub mod LaterInOrder
pub mod Loaded
pub mod Theorems
