pub mod FlatWriting
pub mod Loosely
