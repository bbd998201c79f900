pub mod Area
pub mod Settled
pub mod ValidAreas
pub mod Answers
pub mod KeptOrFallen
