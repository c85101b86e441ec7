pub mod Answers
pub mod Size
pub mod Plain
pub mod Strict
