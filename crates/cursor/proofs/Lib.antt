pub mod Places
pub mod Passing
pub mod Stepping
pub mod Accepting
pub mod Distinct
