pub mod Getters
pub mod Setters
pub mod Apart
