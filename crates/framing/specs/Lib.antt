pub mod Framing
pub mod PcmTaken
pub mod Requested
