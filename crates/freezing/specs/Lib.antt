pub mod Freezing
