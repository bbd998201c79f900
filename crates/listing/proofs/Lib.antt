pub mod Cells
pub mod Spelling
