pub mod FromText
pub mod Placing
