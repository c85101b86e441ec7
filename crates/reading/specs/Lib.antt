pub mod Options
pub mod Reading
pub mod Headed
