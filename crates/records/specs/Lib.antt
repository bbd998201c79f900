pub mod Runs
pub mod Laid
pub mod ValuesInRange
pub mod Falls
pub mod UpdateWalk
pub mod LayoutAnswers
pub mod WholeRecords
pub mod FaultNumbers
