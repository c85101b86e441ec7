pub mod Judge
pub mod Span
