pub mod Walk
pub mod Begun
