pub mod Register
pub mod Check
pub mod First
pub mod Severe
