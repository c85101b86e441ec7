pub mod Options
pub mod Parts
pub mod Sizes
pub mod Answers
pub mod Strict
pub mod Examples
