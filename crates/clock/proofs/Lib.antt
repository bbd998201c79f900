pub mod Before
pub mod SameCount
