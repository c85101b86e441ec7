pub mod Records
pub mod Splice
mod Taken
pub mod Made
pub mod Numbers
pub mod Meaning
pub mod Values
mod Examples
