pub mod Trace
pub mod TimedMessages
pub mod Judging
pub mod Answers
pub mod Arrivals
