pub mod Said
pub mod Stored
pub mod InfoAfter
pub mod Applied
pub mod UpdateResults
pub mod Lifted
pub mod HoldsEnd
pub mod UpdateAlone
