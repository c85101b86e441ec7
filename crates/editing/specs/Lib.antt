pub mod Numbered
pub mod Edit
pub mod Message
