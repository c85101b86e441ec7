pub mod Within
pub mod Longest
