pub mod Option
pub mod Answers
