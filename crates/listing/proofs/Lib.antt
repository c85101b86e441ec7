pub mod Whole
pub mod Message
