pub mod Numbered
pub mod Grouping
pub mod Putting
pub mod Digits
pub mod Rows
pub mod RoundTrip
mod Examples
