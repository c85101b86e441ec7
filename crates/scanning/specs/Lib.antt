pub mod Scanning
pub mod Plain
