pub mod Largest
pub mod Planned
pub mod Values
pub mod Loops
pub mod Answered
pub mod Ours
pub mod Named
pub mod Bound
mod Examples
