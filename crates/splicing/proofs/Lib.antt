mod Copied
pub mod Places
pub mod Homes
pub mod Distinct
