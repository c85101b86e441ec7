pub mod Order
pub mod Places
pub mod Good
pub mod Ranges
pub mod Judging
