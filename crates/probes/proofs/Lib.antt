pub mod Halls
pub mod ProbeAnswers
pub mod Timed
pub mod Tables
