pub mod Tests
pub mod Fitting
pub mod Spans
