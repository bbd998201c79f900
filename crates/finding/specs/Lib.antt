pub mod Grid
pub mod Search
pub mod Found
