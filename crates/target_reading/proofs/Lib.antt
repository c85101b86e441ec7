mod Examples
pub mod Placing
pub mod Answers
pub mod Meaning
