pub mod Padding
pub mod Uints
pub mod Texts
pub mod Distinct
mod Examples
mod Reading
