mod Examples
pub mod Judging
pub mod Said
pub mod Identity
pub mod Tallying
