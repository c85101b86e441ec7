pub mod Message
pub mod Thawing
