pub mod Splice
pub mod Edited
