pub mod Replaying
pub mod Turns
