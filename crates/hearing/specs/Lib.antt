pub mod Table
pub mod Bytes
pub mod Hearing
pub mod Calls
pub mod Told
pub mod Steps
