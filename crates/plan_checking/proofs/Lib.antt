pub mod Tests
pub mod Accepted
pub mod From
pub mod Left
pub mod Powers
mod Examples
