pub mod Places
pub mod Front
pub mod Headed
