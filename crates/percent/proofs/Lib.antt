pub mod Chars
pub mod Stepping
pub mod Coding
