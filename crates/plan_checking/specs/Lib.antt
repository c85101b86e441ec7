pub mod Plan
pub mod Accepted
pub mod Steps
