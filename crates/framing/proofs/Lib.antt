pub mod Moved
pub mod Judged
pub mod Heads
pub mod Converting
pub mod Back
