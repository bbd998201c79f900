pub mod Filled
pub mod Word
pub mod Woven
pub mod Places
pub mod Inverse
