pub mod Unflat
pub mod Inverse
pub mod Longer
