pub mod Reading
pub mod Tally
pub mod Judging
pub mod Sayable
