pub mod Rows
pub mod Notation
pub mod Lists
