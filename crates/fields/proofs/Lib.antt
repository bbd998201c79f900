pub mod All
pub mod Zeros
pub mod HeadWord
pub mod RangesByBits
pub mod Raised
pub mod InfoSaysAll
pub mod Theorems
