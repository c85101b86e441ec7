pub mod Times
pub mod Found
pub mod From
pub mod Left
pub mod Sound
pub mod Complete
pub mod Exact
pub mod Judging
pub mod Counted
pub mod Arrivals
pub mod Bytes
pub mod Distinct
mod Examples
