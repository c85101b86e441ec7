pub mod Records
pub mod Held
