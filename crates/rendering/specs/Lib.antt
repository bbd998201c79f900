pub mod Held
pub mod Out
pub mod Begin
pub mod Give
pub mod Pass
