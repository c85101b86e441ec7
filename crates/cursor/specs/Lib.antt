pub mod Cursor
pub mod Walk
