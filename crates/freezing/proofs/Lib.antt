pub mod Chunks
pub mod Full
pub mod Freezing
