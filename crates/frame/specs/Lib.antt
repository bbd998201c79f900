pub mod Chunk
pub mod Turn
pub mod Loop
