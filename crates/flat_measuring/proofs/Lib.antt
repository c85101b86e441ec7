pub mod Records
pub mod Sent
pub mod Judged
pub mod Places
