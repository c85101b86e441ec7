pub mod Uint
pub mod Text
