pub mod RecordBytes
pub mod Update
pub mod Block
pub mod Raised
pub mod Object
pub mod ObjectInfos
