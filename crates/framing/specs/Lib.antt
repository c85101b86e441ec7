pub mod Head
pub mod Judging
pub mod Framing
