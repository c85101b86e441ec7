pub mod Stream
pub mod Messages
pub mod Answers
