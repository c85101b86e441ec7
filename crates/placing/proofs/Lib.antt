pub mod Puts
pub mod Copy
pub mod Draining
