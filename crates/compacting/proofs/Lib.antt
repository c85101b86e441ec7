pub mod Walks
pub mod Live
pub mod Answers
pub mod Relaid
pub mod Kept
pub mod Done
pub mod Examples
