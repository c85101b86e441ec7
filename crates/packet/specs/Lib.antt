pub mod Limits
pub mod Packet
pub mod Meaning
pub mod Shape
