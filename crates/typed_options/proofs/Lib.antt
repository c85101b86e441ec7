mod Getters
mod Setters
pub mod Stored
pub mod Apart
pub mod Stays
pub mod Values
pub mod Distinct
mod Examples
