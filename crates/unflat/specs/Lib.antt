pub mod Unflat
pub mod Made
