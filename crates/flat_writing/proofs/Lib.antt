pub mod Head
pub mod Answers
pub mod Message
pub mod Loosely
pub mod Pieces
pub mod Options
