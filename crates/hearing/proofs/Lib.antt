mod Examples
pub mod Counts
pub mod Places
pub mod Compared
pub mod Answers
pub mod Written
pub mod Left
pub mod Telling
pub mod Step
pub mod Turns
pub mod Alone
pub mod Cleared
pub mod Going
pub mod Distinct
